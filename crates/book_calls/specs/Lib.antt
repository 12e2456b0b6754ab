pub mod Flat
pub mod Runs
pub mod Steps
