pub mod HeadTexts
pub mod Steps
pub mod Apart
