pub mod Reading
pub mod TableReads
pub mod Marking
pub mod Firsts
pub mod Sorting
pub mod Counts
pub mod Judging
