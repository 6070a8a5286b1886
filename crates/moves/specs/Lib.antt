pub mod Stage
pub mod Checks
pub mod Handled
