mod Numbers
mod Values
mod Writing
mod Arrays
pub mod CallReadings
mod Parts
mod AnswerReadings
