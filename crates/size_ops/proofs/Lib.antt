pub mod Cutting
pub mod Anew
pub mod Known
pub mod LastCut
pub mod Sized
pub mod Planned
pub mod Flown
pub mod Readied
