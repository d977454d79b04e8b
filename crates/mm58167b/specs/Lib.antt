pub mod Layout
pub mod Registers
pub mod View
pub mod Does
pub mod Laws
pub mod Waiting
pub mod Told
pub mod Address
