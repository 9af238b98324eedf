pub mod FileNames
pub mod FolderSize
pub mod Once
pub mod Schemes
pub mod Texts
