pub mod LawsLimits
pub mod Examples
