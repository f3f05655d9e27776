mod Loans
pub mod Turns
pub mod Whole
