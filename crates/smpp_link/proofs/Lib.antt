pub mod Turns
pub mod Latin
pub mod Headers
pub mod Commands
pub mod Frames
pub mod Reading
pub mod Receipts
