pub mod Mounts
pub mod Extending
pub mod Needing
pub mod Landed
pub mod Bases
pub mod Parted
pub mod Ended
