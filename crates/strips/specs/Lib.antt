pub mod Grounding
pub mod Steps
pub mod Laws
pub mod Stepping
pub mod Deciding
pub mod Fitting
