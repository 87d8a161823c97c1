pub mod Bodies
pub mod Slots
pub mod Replacing
pub mod BodyLaws
pub mod CleanedLaws
