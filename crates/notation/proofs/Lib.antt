mod Cut
mod Decoded
mod Patterns
mod Spelling
