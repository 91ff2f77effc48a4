pub mod Loops
pub mod Joins
pub mod Grammar
