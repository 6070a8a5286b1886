mod Places
mod Run
