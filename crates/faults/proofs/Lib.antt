pub mod Counting
pub mod Groups
