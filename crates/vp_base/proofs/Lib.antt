pub mod Newlines
pub mod Views
pub mod Txns
pub mod Among
pub mod OwnBytes
