mod Search
mod Growth
mod Lists
mod Empty
mod Kept
mod Adding
mod Changes
mod Keys
