pub mod TableViews
pub mod KeyLists
pub mod ItemFaults
pub mod SameClusters
pub mod Refusals
pub mod Written
pub mod PlainTexts
pub mod LineTexts
