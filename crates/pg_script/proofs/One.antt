-- An input has one answer.
pub mod Fault
pub mod Layout
pub mod Read
pub mod Script
pub mod Statements
