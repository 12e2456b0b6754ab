pub mod LawsRules
pub mod LawsOffered
pub mod Examples
