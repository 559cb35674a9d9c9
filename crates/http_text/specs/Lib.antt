pub mod Answer
pub mod Head
pub mod HeadSteps
pub mod OneHead
pub mod Place
pub mod PlaceSteps
pub mod Response
