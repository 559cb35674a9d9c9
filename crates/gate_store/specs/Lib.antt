pub mod Deeds
pub mod Entries
pub mod Reopening
pub mod Store
pub mod StoreFault
pub mod StoreSteps
