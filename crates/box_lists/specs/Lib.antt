pub mod Lists
pub mod Merging
pub mod Sorting
