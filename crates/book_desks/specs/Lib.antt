pub mod Desks
pub mod Counts
pub mod Judged
