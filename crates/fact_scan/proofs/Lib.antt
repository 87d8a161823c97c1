pub mod Listed
pub mod Held
pub mod Prefix
pub mod Pushed
pub mod Standing
pub mod Walk
pub mod Answered
