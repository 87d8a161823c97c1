mod NewStill
mod Opened
