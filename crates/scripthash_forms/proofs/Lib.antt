pub mod LawsForms
pub mod LawsTries
pub mod LawsSums
