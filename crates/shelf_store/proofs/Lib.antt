pub mod ArmingLaws
pub mod SlotLists
