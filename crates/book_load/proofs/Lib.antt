pub mod LawsLoad
