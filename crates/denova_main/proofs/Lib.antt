mod OpenedStill
