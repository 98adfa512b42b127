-- The least of those for which something holds, and the next one past another (this project's own).
use Rattle.std.specs.Prelude.{◌≡◌, Option, Some, None}
use Rattle.std.specs.declared.cmp.Ordering.{Ordering}
use Rattle.std.specs.declared.cmp.Ordering.TheVariants.{Less}

pub record IsLeast {A : Type 0} (cmp : A → A → Ordering) (C : A → Type 0) (v : A) : Type 0 where
  pub is : C v
  pub least : (u : A) → C u → cmp u v ≡ Less → ⊥

-- the next one past another; or there is none
abbrev pub IsNext : {A : Type 0} → (A → A → Ordering) → (A → Type 0) → A → Option A → Type 0
IsNext cmp C old (Some new) = IsLeast cmp (λ u. C u × (cmp old u ≡ Less)) new
IsNext {A} cmp C old None = (u : A) → C u → cmp old u ≡ Less → ⊥
