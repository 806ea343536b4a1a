pub mod Conds
pub mod Digits
pub mod Begins
pub mod Lengths
