pub mod Asking
pub mod Kepts
pub mod OtherNames
pub mod ImportLaws
pub mod VariablesFound
pub mod NumberLaws
pub mod CrossingLaws
pub mod ExporterLaws
mod CrossingsGoOn
mod Continuing
mod WholeModules
