pub mod Parts
pub mod Files
pub mod GivenBytes
pub mod NoneHeld
mod FreeRuns
mod Groups
mod Viewing
pub mod Known
