pub mod Pages
pub mod Frees
pub mod ReadDisk
pub mod Judged
pub mod Images
