pub use Rattle.exact_octets.specs.Fronts
pub use Rattle.sms_record.specs.Record
pub mod Limits
pub mod Entry
pub mod Size
pub mod EntryReading
