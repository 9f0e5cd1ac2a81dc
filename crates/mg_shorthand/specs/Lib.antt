pub mod Going
pub mod Keys
pub mod Replies
pub mod Visiting
