pub mod KeyBytes
pub mod FileTables
pub mod FileTexts
pub mod Descriptions
pub mod FileFaults
pub mod Laws
