pub mod Files
pub mod FilesSteps
pub mod Line
