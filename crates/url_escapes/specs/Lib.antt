pub mod Style
pub mod Escape
pub mod Date
pub mod Value
pub mod Words
pub mod Expansion
pub mod Identity
