pub mod EntryAnswers
pub mod Entries
pub mod Answers
pub mod Pack
