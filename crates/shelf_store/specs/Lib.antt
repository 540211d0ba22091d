pub mod ShelfState
pub mod SlotState
pub mod SlotFields
pub mod MemShelfFields
