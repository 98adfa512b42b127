-- What rows, lists and leaves have in common. The contracts are relational: the first part is the least of the values for which
-- something holds (`IsLeast`), the next part the next one, or the tree was the last (`IsNextTree`, specs/Internal/Moves.antt). `Least` has
-- the least and the next one by size, and of a part followed by a rest: of a slot with the slots after it, of a key, of an item with the
-- items after it. `Moves` says what is answered in other words, `Nulls` what comes after null, `Membership` what it is to be a part.
-- Steps of the meter are counted along (specs/Internal/Steps.antt): each node that is gone through or made costs at most the width of the
-- plan, and one. `Costs` adds them up.
pub mod Least
pub mod Moves
pub mod Costs
pub mod Nulls
pub mod Membership
