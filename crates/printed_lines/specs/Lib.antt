pub mod Lines
pub mod AuditLines
