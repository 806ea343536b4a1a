pub mod Lists
pub mod Places
pub mod Finding
pub mod Removing
pub mod Merging
pub mod Sorting
