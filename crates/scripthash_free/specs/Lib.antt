pub mod FreeList
pub mod Answers
