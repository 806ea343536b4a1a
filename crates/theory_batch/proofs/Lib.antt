pub mod Sends
pub mod Calls
pub mod Alone
pub mod Parts
pub mod Theorems
