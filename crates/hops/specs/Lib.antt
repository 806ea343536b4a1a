pub mod Moved
pub mod Tests
