pub mod Bearing
pub mod Keeping
pub mod Kept
pub mod Readers
pub mod Reopened
pub mod Texts
pub mod Units
