pub mod FrameObjects
pub mod SourceTexts
pub mod FoundObjects
pub mod FindTexts
pub mod PlacedRecords
pub mod Finders
pub mod WhereTexts
pub mod LookupCommands
