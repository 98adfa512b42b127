-- Pages built sample by sample; `Laws`: a question has one page past a place with a count; `Live`: an enumeration after a move.
pub mod Lemmas
pub mod Laws
pub mod Live
