pub mod LawsClass
pub mod LawsSlab
