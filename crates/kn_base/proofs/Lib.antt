pub mod Clocks
pub mod Counts
pub mod Decimals
pub mod MemPeers
pub mod Readings
pub mod Talks
