-- What reasons are found by: tests of booleans, and keywords that are there.
use Rattle.std.proofs.Common.{◌≡◌, ◌⊎◌, ℕ, zero, suc, List, [], ◌∷◌, get_or, Bool, true, false, Option, Some, None, refl, subst, inl, inr}
use Rattle.std.specs.Prelude.{if◌then◌else◌, option_and_then, codes}
use Rattle.std.specs.Option.{is_some}
use Rattle.std.specs.Str.{bytes_eq}
use Rattle.std.proofs.lemmas.Bool.{or_cases, or_left, or_right}
use Rattle.jtree.specs.Data.{Data, object, Members, no_members, member}
use Rattle.jtree.specs.Path.{member_at, under}
use Rattle.jtree.specs.Internal.Lookups.{bool_cases, same_name, own_name}
use Rattle.schema.specs.Document.Places.{items, schema_by, only_object}
use Rattle.schema.specs.Rules.Keywords.{is_true, has, has_name, has_keyword, is_text_among, any_item, items_in, is_empty, one_holds}
use Rattle.schema.specs.Rules.Profile.{is_empty_list, has_empty_enum}
use Rattle.schema.specs.declared.reason.Reason.{Reason}

-- a reason is found, with a keyword that is there
abbrev pub Found : (Reason → List ℕ → Data → Bool) → Data → Type 0
Found test s = (k : List ℕ) × (c : Reason) × (has s k ≡ true) × (test c k s ≡ true)

-- ---- one of two answers

pub either_true : (b x y : Bool) → (if b then x else y) ≡ true → ((b ≡ true) × (x ≡ true)) ⊎ ((b ≡ false) × (y ≡ true))
either_true true x y h = inl (refl, h)
either_true false x y h = inr (refl, h)

-- ---- keywords that are there

pub text_there : (vs : List (List ℕ)) (o : Option Data) → is_text_among vs o ≡ true → is_some o ≡ true
text_there vs (Some d) h = refl
text_there vs None h = cc

pub flag_there : (o : Option Data) → is_true o ≡ true → is_some o ≡ true
flag_there (Some d) h = refl
flag_there None h = cc

pub listed_there : (test : Data → Bool) (o : Option Data) → any_item test (items_in o) ≡ true → is_some o ≡ true
listed_there test (Some d) h = refl
listed_there test None h = cc

pub some_there : (o : Option Data) → is_empty (items_in o) ≡ false → is_some o ≡ true
some_there (Some d) h = refl
some_there None h = cc

list_there : (o : Option Data) → is_empty_list o ≡ true → is_some o ≡ true
list_there (Some d) h = refl
list_there None h = cc

object_there : (o : Option Data) (t : Data) → option_and_then only_object (option_and_then (λ e. Some e) o) ≡ Some t → is_some o ≡ true
object_there (Some d) t h = refl
object_there None t h = cc

pub items_there : (s t : Data) → schema_by s items ≡ Some t → has s (codes "items") ≡ true
items_there s t h = object_there (under s (codes "items")) t h

pub empty_there : (s : Data) → has_empty_enum s ≡ true → has s (codes "enum") ≡ true
empty_there s h = list_there (under s (codes "enum")) h

-- ---- some test of a list holds

-- what follows from each of them follows
abbrev Cases : List Bool → Type 0 → Type 0
Cases [] P = P
Cases (b ∷ bs) P = (b ≡ true → P) → Cases bs P

settled : (bs : List Bool) (P : Type 0) → P → Cases bs P
settled [] P p = p
settled (b ∷ bs) P p = λ _. settled bs P p

pub cases : (bs : List Bool) (P : Type 0) → one_holds bs ≡ true → Cases bs P
cases [] P h = absurd (cc)
cases (b ∷ []) P h = λ f. f h
cases (true ∷ c ∷ bs) P h = λ f. settled (c ∷ bs) P (f refl)
cases (false ∷ c ∷ bs) P h = λ _. cases (c ∷ bs) P h

pub holds_at : (bs : List Bool) (i : ℕ) → get_or bs i false ≡ true → one_holds bs ≡ true
holds_at [] i h = absurd (cc)
holds_at (b ∷ []) zero h = h
holds_at (b ∷ []) (suc i) h = absurd (cc)
holds_at (b ∷ c ∷ bs) zero h = or_left b _ h
holds_at (b ∷ c ∷ bs) (suc i) h = or_right b _ (holds_at (c ∷ bs) i h)

-- ---- a keyword that passes a test

named : (test : List ℕ → Bool) (ms : Members) → has_name test ms ≡ true → (k : List ℕ) × (is_some (member_at k ms) ≡ true) × (test k ≡ true)
named test no_members h = absurd (cc)
named test (member k d ms) h = elim (or_cases _ _ h) [
  | inl t ↦ (k, rw own_name refl, t)
  | inr later ↦
      let f = named test ms later in
      (f.0, elim (bool_cases (bytes_eq f.0 k)) [ inl t ↦ rw t refl | inr other ↦ rw other f.1 ], f.2)
]

pub some_keyword : (test : List ℕ → Bool) (s : Data) → has_keyword test s ≡ true → (k : List ℕ) × (has s k ≡ true) × (test k ≡ true)
some_keyword test (object ms) h = named test ms h
some_keyword test _ h = absurd (cc)

has_named : (test : List ℕ → Bool) (ms : Members) (k : List ℕ) → is_some (member_at k ms) ≡ true → test k ≡ true → has_name test ms ≡ true
has_named test no_members k there t = cc
has_named test (member l d ms) k there t = elim (bool_cases (bytes_eq k l)) [
  | inl same ↦ or_left (test l) _ (subst (λ m. test m ≡ true) (same_name k l same) t)
  | inr other ↦ or_right (test l) _ (has_named test ms k (rw other at there) t)
]

pub keyword_found : (test : List ℕ → Bool) (s : Data) (k : List ℕ) → has s k ≡ true → test k ≡ true → has_keyword test s ≡ true
keyword_found test (object ms) k there t = has_named test ms k there t
keyword_found test _ k there t = absurd (cc)
