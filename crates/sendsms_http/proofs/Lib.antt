pub mod Doings
pub mod Endings
pub mod Events
pub mod Exchanges
pub mod Heads
pub mod SessionLemmas
pub mod Termination
pub mod Wishes
