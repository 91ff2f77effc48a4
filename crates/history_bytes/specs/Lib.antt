pub mod Histories
pub mod HistorySpelling
pub mod HistoryReading
pub mod HistoryLaws
