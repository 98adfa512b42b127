-- What is before a place of a row whose slots are filled so.
use Rattle.std.specs.Prelude.{◌≡◌, ℕ, suc, List, [], ◌∷◌, Option, Some, None}
use Rattle.std.specs.Borrow.{Bor}
use Rattle.std.specs.declared.alloc.Global.{Global}
use Rattle.std.specs.declared.vec.Vec.{Vec}
use Rattle.jtree.specs.Data.{Data, Members, no_members, member}
use Rattle.jtree.specs.declared.value.Member.{Member}
use Rattle.jtree.specs.declared.value.Tree.{Tree}
use Rattle.plan.specs.Samples.Sites.{Slot}
use Rattle.plan.specs.Samples.Sizes.{Before, nothing, filled}
use Rattle.enumerate.specs.Internal.Candidates.{rows_of}
use Rattle.enumerate.specs.Internal.Rows.{still_used}
use Rattle.enumerate.specs.declared.prefix.Prefix.{Prefix}

-- the members there
abbrev pub members_to : ℕ → List Slot → List (Option Data) → Members
members_to (suc place) (s ∷ ss) (None ∷ gs) = members_to place ss gs
members_to (suc place) (s ∷ ss) (Some v ∷ gs) = member s.name v (members_to place ss gs)
members_to _ _ _ = no_members

-- how many slots are filled there, and which named fields are among them
abbrev pub before_at : ℕ → List Slot → List (Option Data) → Before → Before
before_at (suc place) (s ∷ ss) (None ∷ gs) x = before_at place ss gs x
before_at (suc place) (s ∷ ss) (Some v ∷ gs) x = before_at place ss gs (filled s.bit x)
before_at _ _ _ x = x

-- the used rows that agree with what is there
abbrev pub used_at : ℕ → List Slot → List (Option Data) → List Data → List Data
used_at (suc place) (s ∷ ss) (None ∷ gs) used = used_at place ss gs used
used_at (suc place) (s ∷ ss) (Some v ∷ gs) used = used_at place ss gs (still_used s v used)
used_at _ _ _ used = used

-- the last member has the name
abbrev pub EndsIn : List ℕ → List Member → Type 0
EndsIn k [] = ⊥
EndsIn k (one ∷ []) = one.name ≡ k
EndsIn k (one ∷ other ∷ members) = EndsIn k (other ∷ members)

-- the used rows that agree; all of them where it is not said which
abbrev pub agreeing_rows : Option (Vec (Bor Tree) Global) → List Data → List Data
agreeing_rows None used = used
agreeing_rows (Some rows) used = rows_of rows.items

-- it is what is before the place, where the slots are filled so
pub record IsPrefix (ss : List Slot) (place : ℕ) (gs : List (Option Data)) (used : List Data) (front : Prefix) : Type 0 where
  pub before : front.before ≡ before_at place ss gs nothing
  pub rows : agreeing_rows front.agreeing used ≡ used_at place ss gs used
