pub mod Prints
pub mod Cases
