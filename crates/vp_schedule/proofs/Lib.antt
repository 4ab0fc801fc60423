mod Tails
pub mod Tables
pub mod Exact
mod OtherSites
mod EventTexts
mod Newlines
mod LineTexts
mod Catalogues
mod Steps
mod Spelled
mod Answering
mod Only
