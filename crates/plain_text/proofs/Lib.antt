pub mod NumberLemmas
pub mod SpellingLemmas
pub mod TransactionLemmas
