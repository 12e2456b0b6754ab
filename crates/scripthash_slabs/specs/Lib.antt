pub mod Class
pub mod Slab
pub mod Answers
