pub mod LineLemmas
pub mod ReplyLemmas
