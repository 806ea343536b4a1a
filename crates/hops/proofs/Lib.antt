pub mod Landing
pub mod Ways
pub mod Testing
