pub mod Items
pub mod Kept
pub mod Freed
pub mod Queued
pub mod KeptInodes
