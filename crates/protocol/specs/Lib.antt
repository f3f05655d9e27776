pub mod Settings
pub mod Clients
pub mod Protocol
pub mod Runs
