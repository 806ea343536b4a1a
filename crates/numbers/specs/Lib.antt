pub mod Coded
pub mod Returned
