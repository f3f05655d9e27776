pub mod Sizes
pub mod Memory
pub mod Parts
pub mod Answering
pub mod Handing
