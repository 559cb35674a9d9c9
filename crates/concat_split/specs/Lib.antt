pub mod Joint
pub mod Outgoing
pub mod Characters
pub mod Parts
pub mod Kept
