pub mod Prefixes
pub mod Lists
pub mod Rests
pub mod NameList
pub mod IdCodes
