mod Names
mod Walks
