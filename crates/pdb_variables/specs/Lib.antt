pub mod VariableRecords
pub mod Variables
pub mod VariableWalk
pub mod VariableViews
