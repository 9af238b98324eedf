pub mod OpenScopeStack
pub mod VariableWalks
pub mod ToldKeys
pub mod RecordsBehind
pub mod WalkSteps
pub mod CallNumbers
