mod Newlines
mod CutTexts
pub mod Finding
