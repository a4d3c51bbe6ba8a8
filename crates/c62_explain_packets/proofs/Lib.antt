pub mod RemarkLemmas
