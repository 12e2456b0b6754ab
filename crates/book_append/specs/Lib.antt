pub mod Appends
pub mod Answers
pub mod Steps
