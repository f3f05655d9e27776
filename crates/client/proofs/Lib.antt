pub mod Counting
pub mod Weighing
