-- Rows. `IsOpen` (specs/Internal/Rows.antt) says that the slots from a place on can be filled, `AreInSlots` (Moves.antt) what is in
-- them. `Lemmas` has a slot with those after it, `Slots` what fills a row, `Moves` and `SlotMoves` what moves it, `Order` the order of
-- rows, `Parts` rows as the parts of a node, `Walks` the walk from the last slot to the first, `Cuts` members that are cut off and put
-- back.
pub mod Lemmas
pub mod Slots
pub mod Moves
pub mod SlotMoves
pub mod Order
pub mod Parts
pub mod Walks
pub mod Cuts
