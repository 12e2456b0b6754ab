pub mod Book
pub mod Answers
pub mod Steps
