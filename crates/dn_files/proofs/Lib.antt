pub mod ByName
pub mod Listed
pub mod Renamed
