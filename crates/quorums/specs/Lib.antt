pub mod Sets
pub mod Laws
pub mod ByCount
pub mod Lists
pub mod ByList
pub mod Counts
pub mod Listings
