pub mod Disk
pub mod Doubt
pub mod Meaning
pub mod MemDisk
pub mod Stop
pub mod Story
