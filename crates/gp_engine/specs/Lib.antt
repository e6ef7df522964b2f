pub mod Engine
pub mod EngineCode
pub mod Methods
