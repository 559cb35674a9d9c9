pub mod CentrePeer
pub mod Saying
