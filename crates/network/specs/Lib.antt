pub mod Kinds
pub mod Queues
