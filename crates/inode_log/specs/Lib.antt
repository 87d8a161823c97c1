pub mod Commits
pub mod Prepare
pub mod PrepareLoop
pub mod Reflags
pub mod OtherLogs
