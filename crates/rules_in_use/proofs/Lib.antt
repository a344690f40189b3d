mod Telling
mod Indexed
mod Following
