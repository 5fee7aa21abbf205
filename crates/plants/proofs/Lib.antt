pub mod Same
pub mod Sound
pub mod Proper
pub mod Prefix
