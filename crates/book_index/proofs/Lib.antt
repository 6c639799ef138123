mod Walks
mod Lists
