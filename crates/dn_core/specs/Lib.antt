pub mod Steps
pub mod Run
pub mod Images
pub mod Rest
pub mod Working
pub mod Headline
