pub mod Scanned
pub mod Kept
pub mod Faults
pub mod Mounted
pub mod Reading
pub mod Finishing
pub mod Opening
