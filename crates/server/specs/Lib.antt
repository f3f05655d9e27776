pub mod Serving
pub mod Receiving
