pub mod AlphabetLemmas
pub mod BitLemmas
pub mod DigitLemmas
pub mod PackLemmas
pub mod Ucs2Lemmas
