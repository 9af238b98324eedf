pub mod ImageFronts
pub mod WholeFiles
pub mod Passed
pub mod ReadBack
pub mod FoundReadBack
pub mod ListReadBack
