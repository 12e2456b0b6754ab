pub mod Runs
pub mod PageList
pub mod Freed
pub mod Steps
pub mod Sparse
pub mod Overlaid
pub mod Answers
