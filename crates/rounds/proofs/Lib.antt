pub mod Copy
pub mod Settled
pub mod Copying
pub mod Rounds
