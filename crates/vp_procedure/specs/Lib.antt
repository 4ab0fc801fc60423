pub mod Procedures
pub mod Keywords
pub mod ExprReading
pub mod StatementReading
pub mod Drafts
pub mod LineReading
pub mod Document
