pub mod Items
pub mod Laws
pub mod Slots
pub mod Walk
pub mod Way
