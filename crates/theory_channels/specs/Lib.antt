pub mod Chains
pub mod Channels
pub mod Waiting
pub mod Rank
pub mod Claims
