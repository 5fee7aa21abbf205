pub mod States
pub mod Paths
pub mod Reached
pub mod Actions
pub mod Laws
pub mod Shown
