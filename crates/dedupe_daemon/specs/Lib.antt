pub mod Pages
pub mod Ahead
pub mod Copies
pub mod Daemon
pub mod Fronts
pub mod Looked
pub mod Stepped
pub mod Remapped
