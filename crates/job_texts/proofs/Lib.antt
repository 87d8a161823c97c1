pub mod Planned
pub mod TellingLaws
pub mod Marked
pub mod CountedRows
