pub mod Ticks
pub mod Writing
