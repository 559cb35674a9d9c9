pub mod Leaving
pub mod Numbers
pub mod Pasts
pub mod Stops
pub mod Told
