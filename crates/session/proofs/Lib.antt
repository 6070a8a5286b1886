mod Begun
mod Sent
