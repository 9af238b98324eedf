pub mod Values
pub mod KindNames
pub mod Flags
pub mod ValueTexts
pub mod FieldTexts
pub mod RecordValues
pub mod ModuleMachines
pub mod TypeKinds
