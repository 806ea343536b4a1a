pub mod Answering
pub mod Parts
pub mod Taking
pub mod Ending
