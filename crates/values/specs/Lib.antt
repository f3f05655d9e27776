pub mod Laws
pub mod TotalValues
pub mod Prices
pub mod PriceLaws
pub mod TotalLaws
