pub mod AnsweredLines
pub mod OwnedLines
pub mod HeaderMachines
