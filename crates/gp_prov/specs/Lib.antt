pub mod Encoding
pub mod ToPlain
pub mod Translating
