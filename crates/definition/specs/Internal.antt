pub mod ByLevel
