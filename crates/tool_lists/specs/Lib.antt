pub mod FrameTexts
pub mod SectionTexts
pub mod ModuleSizes
pub mod ModuleLists
pub mod StreamBytes
pub mod StreamOrder
pub mod StreamRoles
pub mod StreamTexts
