pub mod Drops
pub mod Answers
pub mod Steps
