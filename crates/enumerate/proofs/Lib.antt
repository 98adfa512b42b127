-- The lemmas of this crate, in folders as the files of `src/` are. The answers of a function are in the folder of its type or module:
-- those of all methods of `Walk` in `walk/Walk/`.
pub mod walks
pub mod leaves
pub mod rows
pub mod prefixes
pub mod lists
pub mod samples
pub mod pages
