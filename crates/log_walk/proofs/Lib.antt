pub mod Filled
pub mod OneEnd
pub mod Outcome
pub mod Paged
pub mod Views
pub mod Widths
