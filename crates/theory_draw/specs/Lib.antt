pub mod Draws
pub mod Drawing
pub mod Claims
pub mod Cases
