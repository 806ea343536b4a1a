pub mod Boxes
pub mod Boxing
pub mod Merging
pub mod Cases
