pub mod LawsSums
pub mod LawsDesks
pub mod LawsCounts
pub mod LawsJudged
pub mod LawsMaking
