pub mod Assignments
pub mod Truth
pub mod Progression
pub mod Laws
pub mod Classes
pub mod Masks
