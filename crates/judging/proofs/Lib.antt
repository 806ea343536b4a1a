pub mod Letters
pub mod Verdicts
