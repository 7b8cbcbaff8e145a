mod Listing
mod All
mod Counting
