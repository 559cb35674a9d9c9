pub mod Key
pub mod Reports
