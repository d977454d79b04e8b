pub mod Asking
pub mod Behaving
pub mod Told
