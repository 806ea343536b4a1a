pub mod Lookup
pub mod Unsafe
pub mod Rounds
