mod RowLists
pub mod LiveFiles
mod InTheWay
mod OnlyRoom
