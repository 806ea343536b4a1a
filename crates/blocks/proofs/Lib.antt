pub mod Corners
pub mod Near
