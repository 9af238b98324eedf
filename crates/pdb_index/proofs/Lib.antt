pub mod DepthSteps
mod FewFrames
mod Halving
mod LastRows
pub mod Numbers64
pub mod RisingNumbers
mod WholeReads
mod WholeStacks
