pub mod AnsweredLines
pub mod RequestTexts
pub mod VariableTexts
pub mod CodeTexts
pub mod OwnedLines
