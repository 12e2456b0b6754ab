pub mod Reads
pub mod Lengths
pub mod Answers
