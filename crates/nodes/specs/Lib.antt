pub mod Sized
pub mod Rounds
