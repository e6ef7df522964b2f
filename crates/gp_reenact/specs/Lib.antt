pub mod Backends
pub mod Reenacting
pub mod Programs
pub mod Encoding
pub mod Travel
pub mod Looking
pub mod LookingForms
