mod Tables
mod Filling
mod Gathering
