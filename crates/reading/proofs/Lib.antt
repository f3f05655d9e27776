mod Choosing
pub mod Views
pub mod Cells
pub mod Notes
pub mod Enters
pub mod Decides
pub mod Countdown
pub mod Parts
