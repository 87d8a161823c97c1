pub mod Events
pub mod Writing
pub mod Runs
pub mod WithLog
pub mod MayWrite
pub mod WriteLaws
pub mod Laws
