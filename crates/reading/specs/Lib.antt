pub mod Choosing
pub mod Readings
pub mod Reports
pub mod Deciding
pub mod Hearing
