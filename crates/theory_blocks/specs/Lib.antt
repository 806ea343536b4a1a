pub mod Marking
pub mod Rounds
pub mod Blocks
pub mod Obstacles
