pub mod Joints
pub mod Headers
pub mod Cuts
pub mod Fronts
pub mod Texts
pub mod Shares
pub mod Fitting
