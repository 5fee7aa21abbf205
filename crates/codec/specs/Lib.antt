pub mod Codes
pub mod Padding
pub mod Tables
pub mod Writing
