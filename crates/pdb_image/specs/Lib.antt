pub mod Parts
pub mod Headers
pub mod Debug
pub mod Images
pub mod ImagePlaces
pub mod ImageRefusals
