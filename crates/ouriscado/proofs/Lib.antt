pub mod LawsAnswers
pub mod LawsBook
pub mod LawsOut
