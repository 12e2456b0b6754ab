pub mod LawsSizes
pub mod LawsHead
pub mod LawsWords
