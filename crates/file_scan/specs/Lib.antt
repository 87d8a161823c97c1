pub mod Index
pub mod IndexLoop
pub mod Names
