pub mod Sends
pub mod Answering
