mod Orders
mod Shortest
