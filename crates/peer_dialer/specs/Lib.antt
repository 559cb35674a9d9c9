pub mod Closed
pub mod Dealings
pub mod Host
pub mod MemDialer
pub mod Told
