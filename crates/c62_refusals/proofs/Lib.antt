mod Packed
mod Words
