pub mod Area
pub mod Costs
pub mod Journal
pub mod Keeping
pub mod Opening
