pub mod Cutting
pub mod Steps
pub mod Answers
