pub mod Faults
pub mod WritingLemmas
pub mod RespondingLemmas
pub mod EachWritten
