pub mod Counting
pub mod Grids
pub mod Numbering
pub mod Numbers
pub mod Draws
pub mod FaultMaps
pub mod Drawing
pub mod Theorems
