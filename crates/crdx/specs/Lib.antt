pub mod Program
pub mod Output
pub mod Internal
