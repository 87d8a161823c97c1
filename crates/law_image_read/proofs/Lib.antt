pub mod Least
pub mod Head
pub mod Inodes
pub mod Logs
pub mod Links
pub mod Stay
pub mod ImageRead
pub mod Stands
