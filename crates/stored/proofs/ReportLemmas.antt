-- How a walk reports the failures that it finds.
use Rattle.std.specs.Prelude.{◌≡◌, ◌+◌, ℕ, suc, zero, List, [], ◌∷◌, ◌++◌, ◌<◌, length, map, take, Bool, true, false, if◌then◌else◌, All}
use Rattle.std.proofs.Common.{refl, sym, ap, ◌∙◌, append_assoc, arith, drop, get_or}
use Rattle.std.proofs.lemmas.List.{drop_more, take_more, map-append, append-nil}
use Rattle.std.proofs.lemmas.List.Elements.{All-push}
use Rattle.std.specs.Ordering.{is_lt, is_ge}
use Rattle.std.specs.declared.cmp.Ordering.{Ordering}
use Rattle.std.specs.declared.cmp.Ordering.TheVariants.{Less, Equal, Greater}
use Rattle.std.proofs.Math.Seq.{take-append_seam}
use Rattle.jtree.specs.Order.{text_cmp}
use Rattle.jtree.specs.Path.{Step, name, index}
use Rattle.jtree.specs.Pointer.{token}
use Rattle.jtree.specs.Data.{Data, Members, no_members, member}
use Rattle.jtree.specs.View.{data_of, items_of, members_of}
use Rattle.jtree.specs.declared.value.Member.{Member}
use Rattle.jtree.specs.declared.value.Tree.{Tree}
use Rattle.schema.specs.Nodes.View.{node_of, fields_of}
use Rattle.schema.specs.declared.node.Field.{Field}
use Rattle.stored.specs.Objects.Fault.{Test, number}
use Rattle.stored.specs.Objects.AllFaults.{Failure, Reported}
use Rattle.stored.proofs.JoinedLemmas.{joined_onto}
use Rattle.stored.specs.Internal.FailuresByLevel.{joined, value_parts, item_parts, field_parts, found, at_field, dropped, members_before, members_from, members_past, first_at, under, here, failing, Progress, reported_at, noted, added, outcomes, failed}

pub added_more : (p : Progress) (fs gs : List Failure) → added (added p fs) gs ≡ added p (fs ++ gs)
added_more p fs gs = rw (append_assoc, map-append) refl

pub reported_under : (at : List ℕ) (s : Step) (fs : List Failure) → map (reported_at at) (under s fs) ≡ map (reported_at (at ++ token s)) fs
reported_under at s [] = refl
reported_under at s (f ∷ fs) = rw (reported_under at s fs) (rw append_assoc refl)

pub failed_more : (at : List ℕ) (ts us : List (ℕ × Bool)) → failed at (ts ++ us) ≡ failed at ts ++ failed at us
failed_more at [] us = refl
failed_more at (t ∷ ts) us = rw (failed_more at ts us, append_assoc) refl

reported_here : (at : List ℕ) (t : Test) (b : Bool) → map (reported_at at) (if b then here t ∷ [] else []) ≡ (if b then record { path = at; number = number t } ∷ [] else [])
reported_here at t true = rw (append-nil at) refl
reported_here at t false = refl

pub reported_failing : (at : List ℕ) (test : Test → Bool) (ts : List Test) → map (reported_at at) (failing test ts) ≡ failed at (outcomes test ts)
reported_failing at test [] = refl
reported_failing at test (t ∷ ts) = rw (map-append, reported_failing at test ts) (rw (reported_here at t (test t)) refl)

noted_failed : (p q r : Progress) (test : Test → Bool) (ts us : List Test) → q ≡ noted p (failed p.pointer (outcomes test ts)) → r ≡ noted q (failed q.pointer (outcomes test us))
    → r ≡ noted p (failed p.pointer (outcomes test (ts ++ us)))
noted_failed p q r test ts us e f = rw (f, e, map-append, failed_more, append_assoc) refl

-- the tests in four parts
pub reported_own : (p q r s u : Progress) (test : Test → Bool) (ts us vs ws : List Test) → q ≡ noted p (failed p.pointer (outcomes test ts)) → r ≡ noted q (failed q.pointer (outcomes test us))
    → s ≡ noted r (failed r.pointer (outcomes test vs)) → u ≡ noted s (failed s.pointer (outcomes test ws)) → u ≡ added p (failing test (((ts ++ us) ++ vs) ++ ws))
reported_own p q r s u test ts us vs ws eq er es eu =
    rw reported_failing (noted_failed p s u test ((ts ++ us) ++ vs) ws (noted_failed p r s test (ts ++ us) vs (noted_failed p q r test ts us eq er) es) eu)

-- the pointer is cut again to what it was
pub left : (at : List ℕ) (ts : List Reported) (s : Step) (fs : List Failure) (q : Progress) (cut : List ℕ) → q ≡ added (record { pointer = at ++ token s; reported = ts }) fs → cut ≡ take (length at) q.pointer
    → record { pointer = cut; reported = q.reported } ≡ added (record { pointer = at; reported = ts }) (under s fs)
left at ts s fs q cut e f = rw (f, e, take-append_seam, reported_under) refl

-- one item more
pub items_more : (p q z : Progress) (failures : ℕ → Data → List Failure) (xs : List Tree) (i : ℕ) (x : Tree) → i < length xs → x ≡ get_or xs i x
    → q ≡ added p (under (index i) (failures i (data_of x))) → added p (joined (item_parts failures i (items_of (drop i xs)))) ≡ z
    → added q (joined (item_parts failures (i + 1) (items_of (drop (i + 1) xs)))) ≡ z
items_more p q z failures xs i x within at e f =
    let split : drop i xs ≡ x ∷ drop (i + 1) xs = drop_more xs i x within ∙ ap (λ y. y ∷ drop (i + 1) xs) (sym at) in
    let next : suc i ≡ i + 1 = omega arith in
    let here = under (index i) (failures i (data_of x)) in
    rw e
    (added_more p here (joined (item_parts failures (i + 1) (items_of (drop (i + 1) xs))))
    ∙ (ap (λ n. added p (here ++ joined (item_parts failures n (items_of (drop (i + 1) xs))))) (sym next)
    ∙ (ap (λ ys. added p (joined (item_parts failures i (items_of ys)))) (sym split) ∙ f)))

-- one member more
pub values_more : (p q z : Progress) (failures : Data → List Failure) (xs : List Member) (i : ℕ) (x : Member) → i < length xs → x ≡ get_or xs i x
    → q ≡ added p (under (name x.name) (failures (data_of x.tree))) → added p (joined (value_parts failures (members_of (drop i xs)))) ≡ z
    → added q (joined (value_parts failures (members_of (drop (i + 1) xs)))) ≡ z
values_more p q z failures xs i x within at e f =
    let split : drop i xs ≡ x ∷ drop (i + 1) xs = drop_more xs i x within ∙ ap (λ y. y ∷ drop (i + 1) xs) (sym at) in
    rw e
    (added_more p (under (name x.name) (failures (data_of x.tree))) (joined (value_parts failures (members_of (drop (i + 1) xs))))
    ∙ (ap (λ ys. added p (joined (value_parts failures (members_of ys)))) (sym split) ∙ f))

-- one field more, with the members before it
pub fields_more : (strict drops : Bool) (p q r z : Progress) (fs : List Field) (i : ℕ) (f : Field) (ms before from rest : Members) → i < length fs → f ≡ get_or fs i f
    → before ≡ members_before f.name ms → from ≡ members_from f.name ms → rest ≡ members_past f.name from
    → q ≡ added p (joined (dropped drops before)) → r ≡ added q (under (name f.name) (at_field f.required (λ d. found strict false (node_of f.node) d) (first_at f.name from)))
    → added p (joined (field_parts strict drops (fields_of (drop i fs)) ms)) ≡ z → added r (joined (field_parts strict drops (fields_of (drop (i + 1) fs)) rest)) ≡ z
fields_more strict drops p q r z fs i f ms before from rest within at b fr re e g h =
    let split : drop i fs ≡ f ∷ drop (i + 1) fs = drop_more fs i f within ∙ ap (λ y. y ∷ drop (i + 1) fs) (sym at) in
    let front = joined (dropped drops (members_before f.name ms)) in
    let own = under (name f.name) (at_field f.required (λ d. found strict false (node_of f.node) d) (first_at f.name (members_from f.name ms))) in
    let more = joined (field_parts strict drops (fields_of (drop (i + 1) fs)) (members_past f.name (members_from f.name ms))) in
    let whole : joined (field_parts strict drops (fields_of (drop i fs)) ms) ≡ front ++ (own ++ more) = rw split (joined_onto (dropped drops (members_before f.name ms)) _) in
    rw (g, e, re, fr, b) (added_more (added p front) own more ∙ (added_more p front (own ++ more) ∙ (ap (added p) (sym whole) ∙ h)))

-- ---- members before a name, and from it on

less_else : (o : Ordering) → is_ge o ≡ false → is_lt o ≡ true
less_else Less e = refl
less_else Equal e = cc
less_else Greater e = cc

not_less : (o : Ordering) → is_ge o ≡ true → is_lt o ≡ false
not_less Less e = cc
not_less Equal e = refl
not_less Greater e = refl

abbrev pub IsBefore : List ℕ → Member → Type 0
IsBefore k m = is_lt (text_cmp m.name k) ≡ true

-- one more
pub before_more : (k : List ℕ) (ms : List Member) (i : ℕ) (m : Member) → i < length ms → m ≡ get_or ms i m → is_ge (text_cmp m.name k) ≡ false → All (IsBefore k) (take i ms) → All (IsBefore k) (take (i + 1) ms)
before_more k ms i m within at past h = rw (take_more ms i m within, ← at) (All-push (IsBefore k) (take i ms) m h (less_else (text_cmp m.name k) past))

-- the first one that is not ends them
pub split_there : (k : List ℕ) (ms : List Member) (i : ℕ) (m : Member) → i < length ms → m ≡ get_or ms i m → is_ge (text_cmp m.name k) ≡ true → All (IsBefore k) (take i ms)
    → (members_of (take i ms) ≡ members_before k (members_of ms)) × (members_of (drop i ms) ≡ members_from k (members_of ms))
split_there k [] i m within at past h = absurd (omega arith)
split_there k (n ∷ ms) zero m within at past h =
    let other : is_lt (text_cmp n.name k) ≡ false = not_less (text_cmp n.name k) (rw at at past) in
    (rw other refl, rw other refl)
split_there k (n ∷ ms) (suc i) m within at past h =
    let first : is_lt (text_cmp n.name k) ≡ true = h 0 m (omega arith) in
    let later = split_there k ms i m (omega arith) at past (λ j d lt. h (suc j) d (omega (arith, lt))) in
    (rw first (ap (member n.name (data_of n.tree)) later.0), rw first later.1)

pub all_before : (k : List ℕ) (ms : List Member) → All (IsBefore k) ms → (members_of ms ≡ members_before k (members_of ms)) × (no_members ≡ members_from k (members_of ms))
all_before k [] h = (refl, refl)
all_before k (n ∷ ms) h =
    let first : is_lt (text_cmp n.name k) ≡ true = h 0 n (omega arith) in
    let later = all_before k ms (λ j d lt. h (suc j) d (omega (arith, lt))) in
    (rw first (ap (member n.name (data_of n.tree)) later.0), rw first later.1)
