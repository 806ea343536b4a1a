pub mod Sends
pub mod Batch
pub mod Claims
pub mod Cases
