pub mod BigEndian
pub mod SlotLaws
