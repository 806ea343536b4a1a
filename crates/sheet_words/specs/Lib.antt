pub mod Words
pub mod Reading
pub mod Cases
