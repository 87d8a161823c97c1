pub mod Moments
pub mod Called
pub mod Course
pub mod Words
