-- The step table in small moves: what a property has to survive, and that each row consists of such moves. It uses Lists.
pub mod Table
pub mod LocalViews
pub mod Parts
pub mod Calls
pub mod OnlyCoordinator
pub mod Reasons
pub mod Numbered
pub mod Frames
pub mod Both
pub mod Coordinator
pub mod Rows
pub mod FrontRows
pub mod FrontSteps
