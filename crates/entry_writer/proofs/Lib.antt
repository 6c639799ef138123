pub mod Laying
pub mod Written
