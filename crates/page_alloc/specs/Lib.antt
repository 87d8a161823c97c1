pub mod Free
pub mod Bitmap
