pub mod Sends
pub mod Sending
pub mod Mapped
