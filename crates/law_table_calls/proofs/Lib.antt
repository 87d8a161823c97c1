pub mod Fitting
pub mod Disks
