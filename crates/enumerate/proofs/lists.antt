-- Lists, by the notions of specs/Internal/Lists.antt: `Lemmas` by items, `Moves`, `Walks` from the last item on. For sets and map lists
-- `Whole` and `UnusedItems` say which items are alike an earlier one, `SetItems` and `KeyItems` that some item is left where a list can
-- go on.
pub mod Lemmas
pub mod Moves
pub mod Walks
pub mod Whole
pub mod SetItems
pub mod KeyItems
pub mod UnusedItems
