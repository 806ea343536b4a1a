pub mod Picking
pub mod Cases
