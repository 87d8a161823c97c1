pub mod Relogged
pub mod KeptPlaces
pub mod ReplacedLog
