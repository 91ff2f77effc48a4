pub mod HeightSlots
pub mod OpenRows
pub mod Opening
pub mod Turns
pub mod Floors
