pub mod Phases
pub mod Changes
pub mod Faults
pub mod Opening
