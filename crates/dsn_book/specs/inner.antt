pub mod Closing
pub mod Entry
pub mod Index
pub mod Step
pub mod Table
