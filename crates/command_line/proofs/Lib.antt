pub mod Chains
pub mod FaultLemmas
pub mod KindLemmas
pub mod MatchesLemmas
pub mod NumberLemmas
pub mod ReceiptLemmas
pub mod SeedLemmas
pub mod SourceLemmas
pub mod Tables
mod UnfitLemmas
