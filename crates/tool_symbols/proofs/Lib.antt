pub mod Blanks
pub mod OffsetLines
pub mod LocalWords
pub mod SymbolCommands
pub mod OpenScopes
pub mod ScopeLines
