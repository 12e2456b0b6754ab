pub mod Refusal
pub mod Answers
