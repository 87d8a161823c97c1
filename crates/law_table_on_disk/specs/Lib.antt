pub mod OneWord
pub mod Keeping
pub mod CountLaws
pub mod PointerLaws
pub mod RowLaws
pub mod MappingLaws
pub mod BalanceLaws
pub mod TableLaws
