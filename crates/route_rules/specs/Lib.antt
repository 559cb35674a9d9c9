pub mod Carriage
pub mod Routes
pub mod Steps
