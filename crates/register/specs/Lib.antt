pub mod Beginning
pub mod Calling
pub mod Faults
