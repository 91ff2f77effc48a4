pub mod StreamEnds
pub mod Agreement
pub mod Proposals
pub mod Ledgers
pub mod Backing
pub mod WorldRuns
pub mod Computed
pub mod UniqueLedgers
mod Refuted
pub mod Unforged
pub mod Floors
mod Encodings
mod SentStatements
pub mod Audits
pub mod AuditFindings
mod AuditedForks
mod AuditExamples
mod PlainRun
