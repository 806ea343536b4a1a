pub mod Groups
pub mod Legs
pub mod Files
pub mod Converting
pub mod Claims
pub mod Cases
