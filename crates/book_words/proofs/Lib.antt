pub mod LawsWords
pub mod LawsCalls
pub mod LawsAnswers
