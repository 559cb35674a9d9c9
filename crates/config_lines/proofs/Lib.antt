pub mod Blanks
pub mod Lines
pub mod Quotes
pub mod Reading
