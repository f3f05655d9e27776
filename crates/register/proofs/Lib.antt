pub mod Enough
pub mod Replies
pub mod Faulty
pub mod Opening
pub mod Beginning
pub mod Begins
pub mod ReadBegins
