mod Folders
mod Tested
mod Bare
