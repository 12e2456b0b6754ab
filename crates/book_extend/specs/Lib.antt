pub mod Extends
pub mod Answers
pub mod Steps
