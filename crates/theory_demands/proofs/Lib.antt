pub mod Requests
pub mod Hops
pub mod Routes
pub mod Steps
pub mod Calls
pub mod Theorems
pub mod Example
