pub mod Bytes
pub mod Print
pub mod Count
pub mod Slot
pub mod PrintLaws
