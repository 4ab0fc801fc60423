-- Facts on journals: the order by views, what the entries do to values, and what can be played on them. It uses Lists.
pub mod Play
pub mod Order
pub mod Places
pub mod UpTo
pub mod Acts
pub mod TablesAfter
pub mod ValuesAfter
pub mod Changed
pub mod LastChanges
pub mod ValuesGrow
pub mod TableContents
pub mod Playing
pub mod Contents
