pub mod Decisions
pub mod RowRead
pub mod Apart
pub mod ChainRead
pub mod Walked
pub mod Tables
