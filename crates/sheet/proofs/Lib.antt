pub mod Going
pub mod Ending
