pub mod Form
pub mod Messages
pub mod Pairs
pub mod Ranges
pub mod Variables
