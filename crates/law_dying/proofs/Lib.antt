pub mod Stepped
pub mod Dropped
pub mod SteppedValid
pub mod SteppedFiles
pub mod SteppedDiffers
pub mod Steps
