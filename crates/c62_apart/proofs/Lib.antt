mod Marking
mod Parting
mod Running
mod Telling
mod Touching
mod Watching
