pub mod LawsRead
pub mod LawsLength
