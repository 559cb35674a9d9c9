pub mod Alphabet
pub mod Numbers
pub mod Reading
pub mod Telling
pub mod Fronts
pub mod Growth
pub mod Spelling
