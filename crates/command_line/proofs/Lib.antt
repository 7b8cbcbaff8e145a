mod Apps
mod Simple
mod Values
