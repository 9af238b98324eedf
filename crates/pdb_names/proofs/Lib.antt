pub mod Eaches
pub mod Hex
pub mod Joining
pub mod Levels
pub mod Reversing
pub mod Runs
pub mod Views
