-- The lemmas of this crate. `TextLemmas`, `WordLemmas`, `NameLemmas`, `SignLemmas`: the characters of texts, names that are words, the names of
-- types, counts of signs; `LoopLemmas`, `TurnLemmas`: how loops of the code follow the steps of reading; `Parts`: steps of reading, taken apart;
-- `SoundStarts`, `Sound`: what is read is in the grammar; `Stops`: what cannot go on an expression; `Shorter`: what follows a form is shorter;
-- `CompleteStarts`, `Complete`: what is in the grammar is read; `Exact`: both, of a whole list of tokens.
pub mod TextLemmas
pub mod WordLemmas
pub mod NameLemmas
pub mod SignLemmas
pub mod LoopLemmas
pub mod TurnLemmas
pub mod Parts
pub mod SoundStarts
pub mod Sound
pub mod Stops
pub mod Shorter
pub mod CompleteStarts
pub mod Complete
pub mod Exact
