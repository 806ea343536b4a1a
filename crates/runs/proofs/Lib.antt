pub mod Same
pub mod Comparing
