pub mod Fewest
pub mod Numbers
pub mod Septets
