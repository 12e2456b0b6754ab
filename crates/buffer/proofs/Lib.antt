pub mod LawsOrder
pub mod LawsBytes
pub mod LawsApart
pub mod LawsLittleEndian
pub mod LawsOverwrite
pub mod LawsFields
pub mod LawsEight
