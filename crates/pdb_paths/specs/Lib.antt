pub mod FileNames
pub mod Folders
pub mod ImagePaths
pub mod SymbolPaths
