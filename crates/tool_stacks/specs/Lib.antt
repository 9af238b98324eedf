pub mod Answers
pub mod Beginnings
pub mod Frames
pub mod LineAddresses
pub mod LineUses
pub mod Missing
pub mod Stacks
