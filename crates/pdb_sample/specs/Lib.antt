pub mod Sample
pub mod Plan
pub mod Failing
