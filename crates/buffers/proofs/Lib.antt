pub mod Over
pub mod Copy
pub mod Repeat
pub mod First
