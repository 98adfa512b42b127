-- What private contracts say.
pub mod View
pub mod Written
