pub mod Hits
pub mod OneLog
pub mod Steps
