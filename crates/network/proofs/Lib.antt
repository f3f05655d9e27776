pub mod Closing
pub mod Sending
