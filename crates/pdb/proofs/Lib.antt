pub mod Kept
pub mod Headers
pub mod ListPlaces
pub mod Listed
pub use Rattle.pdb_base.proofs.Passing
