pub mod Arithmetic
pub mod Theorems
