pub mod RunEnds
pub mod RunSteps
pub mod Plans
pub mod LookEnds
pub mod LookSteps
pub mod Ends
pub mod Steps
pub mod Statuses
