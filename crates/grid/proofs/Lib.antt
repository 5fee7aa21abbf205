pub mod Acting
pub mod Depicting
pub mod Ends
pub mod Growing
pub mod Packing
pub mod Paths
pub mod Same
