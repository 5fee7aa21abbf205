pub mod Nodes
pub mod Trees
pub mod Rules
pub mod Marks
pub mod Scopes
pub mod Tables
pub mod Lines
pub mod Charts
