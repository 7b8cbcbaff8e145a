mod GoalsRead
mod Runs
