pub mod Elements
pub mod Handed
pub mod Lists
pub mod Ranges
pub mod SplitTexts
pub mod Texts
