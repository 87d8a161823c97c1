pub mod Retagged
pub mod Flagged
pub mod Tags
