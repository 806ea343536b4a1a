pub mod Course
pub mod Claims
