pub mod Listed
pub mod Refused
pub mod IndexedTexts
pub mod KnownValues
pub mod Stops
pub mod WriteFailures
