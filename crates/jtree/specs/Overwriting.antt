-- A part of a text is overwritten in place by another text of the same length (this project's own).
use Rattle.std.specs.Prelude.{◌≡◌, ◌+◌, ◌-◌, ◌≤◌, ◌↔◌, ℕ, List, length, Bool, IsTrue, if◌then◌else◌}
use Rattle.std.specs.List.{splice}

-- the `size` bytes before the last `after` ones are replaced by `new`, exactly where that has as many and there are so many before them
pub record Overwrites (done : Bool) (after size : ℕ) (new before now : List ℕ) : Type 0 where
  pub fits : IsTrue done ↔ (length new ≡ size) × (size + after ≤ length before)
  pub text : let end = length before - after in now ≡ (if done then splice before (end - size) end new else before)
