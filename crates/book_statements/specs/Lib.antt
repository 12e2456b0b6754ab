pub mod Calls
pub mod Recorded
pub mod Padded
pub mod Licence
pub mod Moves
