pub mod Relogged
pub mod RelogLaws
pub mod Replaced
