pub mod Chains
pub mod Search
pub mod Tables
pub mod Looked
pub mod Loading
pub mod Whole
pub mod OneAnswer
