pub mod RecordParts
pub mod TagPlaces
pub mod LawProofs
