pub mod Alphabet
pub mod AlphabetSteps
pub mod Bits
pub mod Packing
pub mod Ucs2
pub mod Charsets
