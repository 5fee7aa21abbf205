pub mod Coding
pub mod Writes
