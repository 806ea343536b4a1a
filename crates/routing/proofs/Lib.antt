pub mod Routed
pub mod Mapped
