pub mod Books
pub mod Calls
pub mod Did
pub mod Keys
pub mod Steps
pub mod Sums
pub mod Append
pub mod Shelf
mod Example
