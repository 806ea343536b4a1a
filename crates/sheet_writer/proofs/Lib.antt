pub mod Using
pub mod Written
