pub mod Letters
pub mod Measuring
pub mod Writing
pub mod Answering
