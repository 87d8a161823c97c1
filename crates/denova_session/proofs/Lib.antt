pub mod Threaded
pub mod Ran
pub mod Statuses
pub mod Completes
