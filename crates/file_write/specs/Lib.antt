pub mod Take
pub mod Plan
