-- Samples by size. `Following` has the next trees that differ in their last node alone, `Current` the next such samples, `Changes`
-- where a tree differs from the one before it.
pub mod Lemmas
pub mod Following
pub mod Changes
pub mod Current
