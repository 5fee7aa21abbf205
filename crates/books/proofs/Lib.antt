pub mod Counts
pub mod Proper
pub mod Sound
pub mod Trees
