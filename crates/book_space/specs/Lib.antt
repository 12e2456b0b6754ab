pub mod Space
pub mod Desks
pub mod Answers
pub mod Steps
