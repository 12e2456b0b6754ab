pub mod LawsFitting
pub mod LawsRising
pub mod LawsCutting
pub mod LawsReach
pub mod LawsPages
pub mod LawsSplit
