pub mod Pigeons
pub mod Slotted
pub mod InsertWords
pub mod SlotBefore
pub mod Emptied
pub mod Staled
