pub mod Uleb128
pub mod Answers
