pub mod Layout
pub mod Carried
pub mod Calls
pub mod Answers
pub mod CarriedLaws
