pub mod Theorems
pub mod Lines
pub mod Feeding
pub mod Printing
pub mod Opening
pub mod Ends
pub mod Progress
