pub mod Sheet
pub mod Reader
pub mod Cases
