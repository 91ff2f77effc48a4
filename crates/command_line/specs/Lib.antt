pub mod Grammar
pub mod Receipts
pub mod Seeds
pub mod Options
pub mod Faults
pub mod KeySources
