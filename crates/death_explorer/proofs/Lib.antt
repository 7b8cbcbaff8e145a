mod Counting
mod Refusing
mod Surviving
