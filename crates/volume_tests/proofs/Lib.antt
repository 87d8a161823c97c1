mod NewStill
mod Planned
