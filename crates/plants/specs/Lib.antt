pub mod Lifted
pub mod Operators
pub mod Actions
pub mod Switches
pub mod Networks
