pub mod UrlLemmas
