pub mod Start
pub mod Units
pub mod Steps
pub mod Answers
pub mod Covered
pub mod Making
