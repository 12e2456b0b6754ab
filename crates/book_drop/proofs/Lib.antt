pub mod LawsDrop
