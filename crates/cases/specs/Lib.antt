pub mod Small
pub mod Table
pub mod Computed
