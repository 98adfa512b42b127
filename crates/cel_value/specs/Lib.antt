-- Values, and what is the same.
pub mod Data
pub mod View
pub mod Same
pub mod Map
pub mod Internal
