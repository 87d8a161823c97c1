pub mod Fronts
pub mod Laws
pub mod Name
pub mod Reading
pub mod Spelling
