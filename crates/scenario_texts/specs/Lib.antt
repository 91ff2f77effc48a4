pub mod Plans
pub mod Words
pub mod Texts
pub mod Lawful
pub mod Lines
pub mod Reading
