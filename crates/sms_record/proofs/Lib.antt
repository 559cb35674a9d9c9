pub mod Headers
pub mod Udh
pub mod Addresses
pub mod Messages
pub mod Alone
