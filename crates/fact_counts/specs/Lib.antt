pub mod Standing
pub mod Counted
