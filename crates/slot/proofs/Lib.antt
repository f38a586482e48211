pub mod Refused
pub mod Pairs
pub mod Places
pub mod Lanes
pub mod Words
