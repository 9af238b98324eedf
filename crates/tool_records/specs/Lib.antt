pub mod RecordFlagTexts
pub mod RecordTexts
