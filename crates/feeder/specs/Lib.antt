pub mod Headers
pub mod Layouts
pub mod Refusals
pub mod Operators
pub mod Tables
pub mod Records
pub mod Verdicts
