pub mod LawsDecimal
pub mod LawsWords
