pub mod Frames
pub mod FrameViews
