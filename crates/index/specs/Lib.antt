pub mod Index
pub mod ExactList
pub mod SlotRecords
