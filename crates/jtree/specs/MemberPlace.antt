-- Where the member of a name is, or belongs, among members in the order of their names, and members with one more or one less
-- (this project's own).
use Rattle.std.specs.Prelude.{◌≡◌, ℕ, zero, suc, List, [], ◌∷◌, Bool, false, if◌then◌else◌, Option, Some, None}
use Rattle.std.specs.Ordering.{match_ordering}
use Rattle.std.specs.declared.cmp.Ordering.TheVariants.{Less, Equal, Greater}
use Rattle.jtree.specs.Data.{Data, Members, no_members, member}
use Rattle.jtree.specs.Order.{text_cmp}
use Rattle.jtree.specs.declared.value.Member.{Member}

-- all before the index have lesser names, and there the name is, or else a greater one or none
abbrev pub IsPlace : Bool → List ℕ → List Member → ℕ → Type 0
IsPlace present k [] i = (present ≡ false) × (i ≡ 0)
IsPlace present k (m ∷ ms) zero = text_cmp k m.name ≡ (if present then Equal else Less)
IsPlace present k (m ∷ ms) (suc i) = (text_cmp k m.name ≡ Greater) × IsPlace present k ms i

-- the members with a value under a name, in place of the one that is there
abbrev pub with_member : List ℕ → Data → Members → Members
with_member k d no_members = member k d no_members
with_member k d (member l e ms) = match_ordering (text_cmp k l) (member k d (member l e ms)) (member k d ms) (member l e (with_member k d ms))

-- the members without the one of a name
abbrev pub without_member : List ℕ → Members → Members
without_member k no_members = no_members
without_member k (member l e ms) = match_ordering (text_cmp k l) (member l e ms) ms (member l e (without_member k ms))

-- the members with this value under a name, or without the one of the name
abbrev pub changed_at : List ℕ → Option Data → Members → Members
changed_at k None ms = without_member k ms
changed_at k (Some d) ms = with_member k d ms
