pub mod Left
pub mod Sites
pub mod Marks
pub mod Turns
pub mod Calls
pub mod Ends
