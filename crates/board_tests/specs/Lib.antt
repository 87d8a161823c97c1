pub mod Kinds
pub mod Trial
