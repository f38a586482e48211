pub mod Chip
pub mod Commands
pub mod Table
