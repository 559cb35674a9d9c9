pub mod PairLists
pub mod Places
