pub mod Digits
pub mod Hex
pub mod Refused
pub mod Words
