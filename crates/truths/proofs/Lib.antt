pub mod Books
pub mod Parcels
pub mod Slips
pub mod Keys
pub mod Steps
pub mod Spent
pub mod Shelves
pub mod Moves
