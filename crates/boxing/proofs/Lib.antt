pub mod Faults
pub mod Rows
pub mod Steps
pub mod Boxing
pub mod Clearing
