pub mod LawsAnswer
pub mod LawsOut
pub mod LawsResult
