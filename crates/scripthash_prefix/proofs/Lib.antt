pub mod Streams
pub mod Slabs
pub mod Pages
