pub mod Halves
pub mod Lane
pub mod Step
