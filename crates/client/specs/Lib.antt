pub mod Showing
pub mod Taking
pub mod Sending
