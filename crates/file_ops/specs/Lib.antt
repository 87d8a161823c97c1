pub mod Ends
pub mod Giving
pub mod Ending
pub mod Filling
pub mod Advancing
pub mod Asking
