pub mod Better
pub mod Theorems
