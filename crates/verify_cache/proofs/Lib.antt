pub mod StoredAnswers
pub mod Priming
