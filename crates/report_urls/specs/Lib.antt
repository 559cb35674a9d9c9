pub mod Report
pub mod ReportUrl
