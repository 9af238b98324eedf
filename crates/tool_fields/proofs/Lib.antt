pub mod Annotations
pub mod Results
pub mod Registers
