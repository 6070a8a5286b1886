mod Stations
pub mod Journal
mod Asking
mod Happens
pub mod Happened
