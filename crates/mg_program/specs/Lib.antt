pub mod Serving
pub mod Top
pub mod Listing
pub mod Complete
pub mod Acknowledged
pub mod Stating
