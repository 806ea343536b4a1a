pub mod Letters
pub mod Judged
pub mod Rules
pub mod Theorems
