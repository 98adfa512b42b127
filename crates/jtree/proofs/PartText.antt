-- The compact text of a tree, by one of its last parts.
use Rattle.std.proofs.Common.{◌≡◌, ℕ, zero, suc, List, [], ◌∷◌, ◌++◌, Bool, true, false, Some, None, refl, sym, ap, ◌∙◌, append_assoc, append-nil, ◌≤◌, length, length-append, arith}
use Rattle.json.specs.Print.{quoted}
use Rattle.serde_json.specs.Written.{comma_if}
use Rattle.jtree.specs.Data.{Data, list, object, Items, no_items, item, Members, no_members, member}
use Rattle.jtree.specs.Text.{items_text, members_text, compact}
use Rattle.jtree.specs.Last.{with_part, items_with_part, members_with_part, with_last, items_with_last, members_with_last, last_depth, items_last_depth, members_last_depth}
use Rattle.jtree.specs.PartText.{front_text, items_front, members_front, part_text, items_part, members_part}
use Rattle.jtree.specs.Internal.LastText.{last_part, last_item, last_member, text_after, items_after, members_after}
use Rattle.jtree.proofs.LastText.{HasItem, HasMember}

regroup_last : (c f p : List ℕ) (b : ℕ) → c ++ ((f ++ p) ++ b ∷ []) ≡ (c ++ f) ++ (p ++ b ∷ [])
regroup_last c f p b = simp append_assoc

regroup : (c t f p : List ℕ) → c ++ (t ++ (f ++ p)) ≡ (c ++ (t ++ f)) ++ p
regroup c t f p = simp append_assoc

regroup_last_member : (c q f p : List ℕ) (b : ℕ) → c ++ (q ++ 58 ∷ ((f ++ p) ++ b ∷ [])) ≡ (c ++ (q ++ 58 ∷ f)) ++ (p ++ b ∷ [])
regroup_last_member c q f p b = simp append_assoc

regroup_member : (c q t f p : List ℕ) → c ++ (q ++ 58 ∷ (t ++ (f ++ p))) ≡ (c ++ (q ++ 58 ∷ (t ++ f))) ++ p
regroup_member c q t f p = simp append_assoc

mutual
  pub by_part : (n : ℕ) (d : Data) → compact d ≡ front_text n d ++ part_text n d
  by_part zero d = refl
  by_part (suc n) (list no_items) = sym (append-nil (compact (list no_items)))
  by_part (suc n) (list (item d ds)) = ap (λ s. 91 ∷ s) (items_by_part n false (item d ds) tt)
  by_part (suc n) (object no_members) = sym (append-nil (compact (object no_members)))
  by_part (suc n) (object (member k d ms)) = ap (λ s. 123 ∷ s) (members_by_part n false (member k d ms) tt)
  by_part (suc n) d = sym (append-nil (compact d))

  items_by_part : (n : ℕ) (later : Bool) (ds : Items) → HasItem ds → items_text later ds ≡ items_front n later ds ++ items_part n ds
  items_by_part n later no_items some = absurd some
  items_by_part n later (item d no_items) some = ap (λ s. comma_if later ++ (s ++ 93 ∷ [])) (by_part n d) ∙ regroup_last (comma_if later) (front_text n d) (part_text n d) 93
  items_by_part n later (item d (item e es)) some =
      ap (λ s. comma_if later ++ (compact d ++ s)) (items_by_part n true (item e es) tt) ∙ regroup (comma_if later) (compact d) (items_front n true (item e es)) (items_part n (item e es))

  members_by_part : (n : ℕ) (later : Bool) (ms : Members) → HasMember ms → members_text later ms ≡ members_front n later ms ++ members_part n ms
  members_by_part n later no_members some = absurd some
  members_by_part n later (member k d no_members) some =
      ap (λ s. comma_if later ++ (quoted k ++ 58 ∷ (s ++ 125 ∷ []))) (by_part n d) ∙ regroup_last_member (comma_if later) (quoted k) (front_text n d) (part_text n d) 125
  members_by_part n later (member k d (member l e ms)) some =
      ap (λ s. comma_if later ++ (quoted k ++ 58 ∷ (compact d ++ s))) (members_by_part n true (member l e ms) tt)
      ∙ regroup_member (comma_if later) (quoted k) (compact d) (members_front n true (member l e ms)) (members_part n (member l e ms))

-- what comes after the first one
more_items : (m n : ℕ) (later : Bool) (d e : Data) (es : Items) (v : Data) → items_front m later (item d (items_with_part n (item e es) v)) ≡ comma_if later ++ (compact d ++ items_front m true (items_with_part n (item e es) v))
more_items m n later d e no_items v = refl
more_items m n later d e (item f fs) v = refl

more_members : (m n : ℕ) (later : Bool) (k : List ℕ) (d : Data) (l : List ℕ) (e : Data) (ms : Members) (v : Data)
    → members_front m later (member k d (members_with_part n (member l e ms) v)) ≡ comma_if later ++ (quoted k ++ 58 ∷ (compact d ++ members_front m true (members_with_part n (member l e ms) v)))
more_members m n later k d l e no_members v = refl
more_members m n later k d l e (member j f ms) v = refl

mutual
  pub same_front : (m n : ℕ) (d v : Data) → m ≤ n → front_text m (with_part n d v) ≡ front_text m d
  same_front zero n d v le = refl
  same_front (suc m) zero d v le = absurd (omega (arith, le))
  same_front (suc m) (suc n) (list no_items) v le = refl
  same_front (suc m) (suc n) (list (item d no_items)) v le = ap (λ s. 91 ∷ s) (items_same_front m n false (item d no_items) v (omega (arith, le)))
  same_front (suc m) (suc n) (list (item d (item e es))) v le = ap (λ s. 91 ∷ s) (items_same_front m n false (item d (item e es)) v (omega (arith, le)))
  same_front (suc m) (suc n) (object no_members) v le = refl
  same_front (suc m) (suc n) (object (member k d no_members)) v le = ap (λ s. 123 ∷ s) (members_same_front m n false (member k d no_members) v (omega (arith, le)))
  same_front (suc m) (suc n) (object (member k d (member l e ms))) v le = ap (λ s. 123 ∷ s) (members_same_front m n false (member k d (member l e ms)) v (omega (arith, le)))
  same_front (suc m) (suc n) d v le = refl

  items_same_front : (m n : ℕ) (later : Bool) (ds : Items) (v : Data) → m ≤ n → items_front m later (items_with_part n ds v) ≡ items_front m later ds
  items_same_front m n later no_items v le = refl
  items_same_front m n later (item d no_items) v le = ap (λ s. comma_if later ++ s) (same_front m n d v le)
  items_same_front m n later (item d (item e es)) v le = more_items m n later d e es v ∙ ap (λ s. comma_if later ++ (compact d ++ s)) (items_same_front m n true (item e es) v le)

  members_same_front : (m n : ℕ) (later : Bool) (ms : Members) (v : Data) → m ≤ n → members_front m later (members_with_part n ms v) ≡ members_front m later ms
  members_same_front m n later no_members v le = refl
  members_same_front m n later (member k d no_members) v le = ap (λ s. comma_if later ++ (quoted k ++ 58 ∷ s)) (same_front m n d v le)
  members_same_front m n later (member k d (member l e ms)) v le =
      more_members m n later k d l e ms v ∙ ap (λ s. comma_if later ++ (quoted k ++ 58 ∷ (compact d ++ s))) (members_same_front m n true (member l e ms) v le)

-- with another last node
more_items_last : (n : ℕ) (later : Bool) (d e : Data) (es : Items) (v : Data) → items_front n later (item d (items_with_last (item e es) v)) ≡ comma_if later ++ (compact d ++ items_front n true (items_with_last (item e es) v))
more_items_last n later d e no_items v = refl
more_items_last n later d e (item f fs) v = refl

more_members_last : (n : ℕ) (later : Bool) (k : List ℕ) (d : Data) (l : List ℕ) (e : Data) (ms : Members) (v : Data)
    → members_front n later (member k d (members_with_last (member l e ms) v)) ≡ comma_if later ++ (quoted k ++ 58 ∷ (compact d ++ members_front n true (members_with_last (member l e ms) v)))
more_members_last n later k d l e no_members v = refl
more_members_last n later k d l e (member m f ms) v = refl

mutual
  pub same_front_last : (n : ℕ) (d v : Data) → n ≤ last_depth d → front_text n (with_last d v) ≡ front_text n d
  same_front_last zero d v inside = refl
  same_front_last (suc n) (list no_items) v inside = absurd (omega (arith, inside))
  same_front_last (suc n) (list (item d no_items)) v inside = ap (λ s. 91 ∷ s) (items_same_front_last n false (item d no_items) v (omega (arith, inside)))
  same_front_last (suc n) (list (item d (item e es))) v inside = ap (λ s. 91 ∷ s) (items_same_front_last n false (item d (item e es)) v (omega (arith, inside)))
  same_front_last (suc n) (object no_members) v inside = absurd (omega (arith, inside))
  same_front_last (suc n) (object (member k d no_members)) v inside = ap (λ s. 123 ∷ s) (members_same_front_last n false (member k d no_members) v (omega (arith, inside)))
  same_front_last (suc n) (object (member k d (member l e ms))) v inside = ap (λ s. 123 ∷ s) (members_same_front_last n false (member k d (member l e ms)) v (omega (arith, inside)))
  same_front_last (suc n) d v inside = absurd (omega (arith, inside))

  items_same_front_last : (n : ℕ) (later : Bool) (ds : Items) (v : Data) → n ≤ items_last_depth ds → items_front n later (items_with_last ds v) ≡ items_front n later ds
  items_same_front_last n later no_items v inside = refl
  items_same_front_last n later (item d no_items) v inside = ap (λ s. comma_if later ++ s) (same_front_last n d v inside)
  items_same_front_last n later (item d (item e es)) v inside = more_items_last n later d e es v ∙ ap (λ s. comma_if later ++ (compact d ++ s)) (items_same_front_last n true (item e es) v inside)

  members_same_front_last : (n : ℕ) (later : Bool) (ms : Members) (v : Data) → n ≤ members_last_depth ms → members_front n later (members_with_last ms v) ≡ members_front n later ms
  members_same_front_last n later no_members v inside = refl
  members_same_front_last n later (member k d no_members) v inside = ap (λ s. comma_if later ++ (quoted k ++ 58 ∷ s)) (same_front_last n d v inside)
  members_same_front_last n later (member k d (member l e ms)) v inside =
      more_members_last n later k d l e ms v ∙ ap (λ s. comma_if later ++ (quoted k ++ 58 ∷ (compact d ++ s))) (members_same_front_last n true (member l e ms) v inside)

-- one bracket for each step down
mutual
  pub brackets : (d : Data) → length (text_after d) ≡ last_depth d
  brackets (list no_items) = refl
  brackets (list (item d ds)) = items_brackets (item d ds) tt
  brackets (object no_members) = refl
  brackets (object (member k d ms)) = members_brackets (member k d ms) tt
  brackets _ = refl

  items_brackets : (ds : Items) → HasItem ds → length (items_after ds) ≡ suc (items_last_depth ds)
  items_brackets no_items some = absurd some
  items_brackets (item d no_items) some = omega (arith, length-append (text_after d) (93 ∷ []), brackets d)
  items_brackets (item d (item e es)) some = items_brackets (item e es) tt

  members_brackets : (ms : Members) → HasMember ms → length (members_after ms) ≡ suc (members_last_depth ms)
  members_brackets no_members some = absurd some
  members_brackets (member k d no_members) some = omega (arith, length-append (text_after d) (125 ∷ []), brackets d)
  members_brackets (member k d (member l e ms)) some = members_brackets (member l e ms) tt

-- ---- one step of the way

items_below : (n : ℕ) (ds : Items) (part : Data) → last_item ds ≡ Some part → items_part n ds ≡ part_text n part ++ 93 ∷ []
items_below n no_items part e = cc
items_below n (item d no_items) part e = let same : d ≡ part = cc in ap (λ x. part_text n x ++ 93 ∷ []) same
items_below n (item d (item f fs)) part e = items_below n (item f fs) part e

members_below : (n : ℕ) (ms : Members) (part : Data) → last_member ms ≡ Some part → members_part n ms ≡ part_text n part ++ 125 ∷ []
members_below n no_members part e = cc
members_below n (member k d no_members) part e = let same : d ≡ part = cc in ap (λ x. part_text n x ++ 125 ∷ []) same
members_below n (member k d (member l f ms)) part e = members_below n (member l f ms) part e

-- the text from a part on, and the bracket around it
pub part_below : (n : ℕ) (d part : Data) (b : ℕ) → last_part d ≡ Some part → ((ds : Items) → d ≡ list ds → b ≡ 93) → ((ms : Members) → d ≡ object ms → b ≡ 125) → part_text (suc n) d ≡ part_text n part ++ b ∷ []
part_below n (list ds) part b e l o = items_below n ds part e ∙ ap (λ c. part_text n part ++ c ∷ []) (sym (l ds refl))
part_below n (object ms) part b e l o = members_below n ms part e ∙ ap (λ c. part_text n part ++ c ∷ []) (sym (o ms refl))
part_below n _ part b e l o = cc

no_item : (n : ℕ) (ds : Items) → last_item ds ≡ None → items_part n ds ≡ []
no_item n no_items e = refl
no_item n (item d no_items) e = cc
no_item n (item d (item f fs)) e = no_item n (item f fs) e

no_member : (n : ℕ) (ms : Members) → last_member ms ≡ None → members_part n ms ≡ []
no_member n no_members e = refl
no_member n (member k d no_members) e = cc
no_member n (member k d (member l f ms)) e = no_member n (member l f ms) e

pub no_part : (n : ℕ) (d : Data) → last_part d ≡ None → part_text (suc n) d ≡ []
no_part n (list ds) e = no_item n ds e
no_part n (object ms) e = no_member n ms e
no_part n _ e = refl
