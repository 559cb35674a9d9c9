pub mod Parts
pub mod Entries
pub mod Accepts
pub mod Alone
pub mod Sizes
