mod NewStill
