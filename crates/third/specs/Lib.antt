pub mod Unanimity
pub mod VersionOrder
pub mod Lights
pub mod Passing
pub mod UnanimousLaws
pub mod VersionLaws
