pub mod Numbers
pub mod Book
pub mod Calls
pub mod Laws
pub mod Shelf
pub mod Example
