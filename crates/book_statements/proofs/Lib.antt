pub mod LawsCalls
pub mod Examples
