mod Exchanging
pub mod Filling
mod PrefixLemmas
pub mod RisingHeights
mod Sizes
mod UnderWay
