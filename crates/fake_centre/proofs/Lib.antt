pub mod CentrePeers
pub mod Commands
pub mod Deliveries
