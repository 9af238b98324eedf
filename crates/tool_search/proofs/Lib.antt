pub mod SourcesTold
pub mod PublicNames
pub mod PlacedRecords
pub mod JsonValues
pub mod GlobalKinds
