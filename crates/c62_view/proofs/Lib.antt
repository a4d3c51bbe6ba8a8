mod Prefixes
mod Adding
mod Courses
mod Follows
mod Played
mod Stepping
