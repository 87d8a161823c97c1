pub mod SlotsStored
pub mod LinkStored
pub mod PageStored
pub mod BodyOfPages
pub mod Replacing
pub mod CleanedDisk
