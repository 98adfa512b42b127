-- Which of the named fields are in slots, and what the junctors say of them.
use Rattle.std.specs.Prelude.{◌≡◌, ◌≢◌, ◌↔◌, ℕ, zero, suc, ◌+◌, ◌*◌, ◌/◌, ◌%◌, ◌^◌, ◌≤◌, ◌<◌, List, Bool, true, false, Option, Some, None, IfSome, map, option_map, not, ◌&&◌, ◌||◌, if◌then◌else◌, nat_eq, bit_or}
use Rattle.std.proofs.Common.{refl, ap, sym, ◌∙◌, subst, inl, inr, arith, [], ◌∷◌, ◌++◌, length, get_or}
use Rattle.std.specs.Int.{bit_at}
use Rattle.std.specs.Option.{is_some}
use Rattle.std.specs.Str.{bytes_eq}
use Rattle.std.proofs.lemmas.Nat.{or_lt, pow_below}
use Rattle.std.proofs.lemmas.Nat.Bits.{bit_at_or, bit_at-lt, bit_at-zero, bit_at-pow_same, bit_at-pow_other, bit_at_cat_low}
use Rattle.std.proofs.lemmas.Option.{same_Some}
use Rattle.jtree.specs.Data.{Data}
use Rattle.jtree.specs.Path.{member_at}
use Rattle.jtree.specs.Internal.Lookups.{bool_cases, option_cases, same_name, own_name}
use Rattle.jtree.specs.Internal.Rising.{Among, among_left, among_right}
use Rattle.schema.specs.Nodes.Node.{Node, Fields, no_fields, field, Validations, validations, Branches, no_branches, branch}
use Rattle.schema.specs.Nodes.Junctors.{names_in, names_of, most_named}
use Rattle.schema.specs.declared.node.Constraints.{Constraints}
use Rattle.stored.specs.Objects.Fault as fault
use Rattle.stored.specs.Objects.Tests.{has_all, has_names, has_member, holds_by, all_hold, any_holds, holding, is_absent, meets_presence}
use Rattle.stored.specs.Objects.StoredByParts.{IsWithin}
use Rattle.plan.specs.Pools.Pools.{Pools}
use Rattle.plan.specs.Samples.Presence.{named, bit_of, is_set, with_bit, meets_seen, no_validations}
use Rattle.plan.specs.Samples.Sites.{Slot, field_slots, value_slot}
use Rattle.plan.specs.Samples.Sizes.{Before, nothing, filled, state_after, Ending, MayEnd, CanFill, IsUpTo}
use Rattle.plan.specs.Samples.RuleOfParts.{members_in}
use Rattle.plan.specs.Internal.Tables.{IsClosed, is_seen, AreMet}
use Rattle.plan.proofs.NameLemmas.{in_order_has}

-- each slot has the place of its name
abbrev pub HaveBits : List (List ℕ) → List Slot → Type 0
HaveBits names ss = (s : Slot) → Among ss s → s.bit ≡ bit_of s.name names

pub field_bits : (P : Pools) (path : List ℕ) (keys names : List (List ℕ)) (fs : Fields) → HaveBits names (field_slots P path keys names fs)
field_bits P path keys names no_fields s a = absurd a
field_bits P path keys names (field k N required default fs) s (inl e) = subst (λ t. Slot.bit t ≡ bit_of (Slot.name t) names) e refl
field_bits P path keys names (field k N required default fs) s (inr a) = field_bits P path keys names fs s a

pub value_bits : (P : Pools) (path : List ℕ) (N : Node) (ks : List (List ℕ)) → HaveBits [] (map (value_slot P path N) ks)
value_bits P path N [] s a = absurd a
value_bits P path N (k ∷ ks) s (inl e) = subst (λ t. Slot.bit t ≡ bit_of (Slot.name t) []) e refl
value_bits P path N (k ∷ ks) s (inr a) = value_bits P path N ks s a

-- ---- places of names

bit_found : (k : List ℕ) (names : List (List ℕ)) → Among names k → (j : ℕ) × (bit_of k names ≡ Some j)
bit_found k [] a = absurd a
bit_found k (l ∷ ls) (inl e) = let own : bytes_eq k l ≡ true = rw e (own_name k) in (0, rw own refl)
bit_found k (l ∷ ls) (inr a) = elim (bool_cases (bytes_eq k l)) [
  | inl t ↦ (0, rw t refl)
  | inr o ↦ let r = bit_found k ls a in (r.0 + 1, rw (o, r.1) refl)
]

one_less : (o : Option ℕ) (j : ℕ) → option_map (λ n. n + 1) o ≡ Some j → (i : ℕ) × ((o ≡ Some i) × (i + 1 ≡ j))
one_less None j e = absurd (cc)
one_less (Some i) j e = (i, (refl, same_Some (i + 1) j e))

bit_same : (k l : List ℕ) (names : List (List ℕ)) (j : ℕ) → bit_of k names ≡ Some j → bit_of l names ≡ Some j → k ≡ l
bit_same k l [] j p q = absurd (cc)
bit_same k l (m ∷ ms) j p q = elim (bool_cases (bytes_eq k m)) [
  | inl t ↦
      elim (bool_cases (bytes_eq l m)) [
        | inl u ↦ same_name k m t ∙ sym (same_name l m u)
        | inr u ↦
            let z : 0 ≡ j = same_Some 0 j (rw t at p) in
            let r = one_less (bit_of l ms) j (rw u at q) in
            absurd (omega (arith, z, r.1.1))
      ]
  | inr t ↦
      let r = one_less (bit_of k ms) j (rw t at p) in
      elim (bool_cases (bytes_eq l m)) [
        | inl u ↦ let z : 0 ≡ j = same_Some 0 j (rw u at q) in absurd (omega (arith, z, r.1.1))
        | inr u ↦
            let s = one_less (bit_of l ms) j (rw u at q) in
            let same : s.0 ≡ r.0 = omega (arith, r.1.1, s.1.1) in
            bit_same k l ms r.0 r.1.0 (s.1.0 ∙ ap Some same)
      ]
]

pub bit_below : (k : List ℕ) (names : List (List ℕ)) (j : ℕ) → bit_of k names ≡ Some j → j < length names
bit_below k [] j p = absurd (cc)
bit_below k (l ∷ ls) j p = elim (bool_cases (bytes_eq k l)) [
  | inl t ↦ let z : 0 ≡ j = same_Some 0 j (rw t at p) in omega (arith, z)
  | inr o ↦ let r = one_less (bit_of k ls) j (rw o at p) in omega (arith, r.1.1, bit_below k ls r.0 r.1.0)
]

-- ---- bits

set_same : (j seen : ℕ) → bit_at (bit_or seen (2 ^ j)) j ≡ 1
set_same j seen = omega (arith, bit_at_or seen (2 ^ j) j, bit_at-pow_same j, bit_at-lt seen j)

set_other : (i j seen : ℕ) → j ≢ i → bit_at (bit_or seen (2 ^ i)) j ≡ bit_at seen j
set_other i j seen apart = omega (arith, bit_at_or seen (2 ^ i) j, bit_at-pow_other i j apart)

never_set : (o : Option ℕ) → is_set o 0 ≡ false
never_set None = refl
never_set (Some j) = rw (bit_at-zero j) refl

-- one name more was seen
more_seen : (names : List (List ℕ)) (k l : List ℕ) (seen : ℕ) → Among names k → is_set (bit_of k names) (with_bit (bit_of l names) seen) ≡ (bytes_eq k l || is_set (bit_of k names) seen)
more_seen names k l seen a =
    let j = bit_found k names a in
    elim (bool_cases (bytes_eq k l)) [
      | inl t ↦ let same : bit_of l names ≡ Some j.0 = ap (λ m. bit_of m names) (sym (same_name k l t)) ∙ j.1 in rw (t, same, j.1, set_same j.0 seen) refl
      | inr o ↦
          elim (option_cases (bit_of l names)) [
            | inl none ↦ rw (o, none) refl
            | inr i ↦
                let apart : j.0 ≢ i.0 = λ e. let same = bit_same k l names j.0 j.1 (i.1 ∙ ap Some (sym e)) in let own : bytes_eq k l ≡ true = rw (← same) (own_name k) in let no = sym own ∙ o in cc in
                rw (o, i.1, j.1, set_other i.0 j.0 seen apart) refl
          ]
    ]

or_none : (b : Bool) → (b || false) ≡ b
or_none true = refl
or_none false = refl

or_all : (b : Bool) → (b || true) ≡ true
or_all true = refl
or_all false = refl

-- after some slots the names are seen that were seen before them, and those of the members in them
seen_in : (names : List (List ℕ)) (k : List ℕ) → Among names k → (ss : List Slot) (gs : List (Option Data)) (x : Before) → HaveBits names ss
    → is_set (bit_of k names) (state_after ss gs x).seen ≡ (is_set (bit_of k names) x.seen || is_some (member_at k (members_in ss gs)))
seen_in names k a [] gs x h = sym (or_none (is_set (bit_of k names) x.seen))
seen_in names k a (s ∷ ss) [] x h = sym (or_none (is_set (bit_of k names) x.seen))
seen_in names k a (s ∷ ss) (None ∷ gs) x h = seen_in names k a ss gs x (λ t b. h t (inr b))
seen_in names k a (s ∷ ss) (Some v ∷ gs) x h =
    let own : s.bit ≡ bit_of s.name names = h s (inl refl) in
    let first : is_set (bit_of k names) (with_bit s.bit x.seen) ≡ (bytes_eq k s.name || is_set (bit_of k names) x.seen) = rw own (more_seen names k s.name x.seen a) in
    let rest = seen_in names k a ss gs (filled s.bit x) (λ t b. h t (inr b)) in
    elim (bool_cases (bytes_eq k s.name)) [
      | inl t ↦ rest ∙ (ap (λ b. b || is_some (member_at k (members_in ss gs))) (rw t at first) ∙ rw t (sym (or_all (is_set (bit_of k names) x.seen))))
      | inr o ↦ rest ∙ (ap (λ b. b || is_some (member_at k (members_in ss gs))) (rw o at first) ∙ rw o refl)
    ]

-- ---- tests that agree on the names in the junctors

abbrev Agree : (List ℕ → Bool) → (List ℕ → Bool) → List (List ℕ) → Type 0
Agree has has' ks = (k : List ℕ) → Among ks k → has k ≡ has' k

agree_left : (has has' : List ℕ → Bool) (ks ls : List (List ℕ)) → Agree has has' (ks ++ ls) → Agree has has' ks
agree_left has has' ks ls h k a = h k (among_left ks ls k a)

agree_right : (has has' : List ℕ → Bool) (ks ls : List (List ℕ)) → Agree has has' (ks ++ ls) → Agree has has' ls
agree_right has has' ks ls h k a = h k (among_right ks ls k a)

names_same : (has has' : List ℕ → Bool) (ks : List (List ℕ)) → Agree has has' ks → has_all ks has ≡ has_all ks has'
names_same has has' [] h = refl
names_same has has' (k ∷ ks) h = let p = h k (inl refl) in let q = names_same has has' ks (λ l a. h l (inr a)) in λ i. p i && q i

-- the junctors of a list of branches answer the same
record AreSame (has has' : List ℕ → Bool) (bs : Branches) : Type 0 where
  all : all_hold (has_names has) bs ≡ all_hold (has_names has') bs
  any : any_holds (has_names has) bs ≡ any_holds (has_names has') bs
  count : holding (has_names has) bs ≡ holding (has_names has') bs

same_junctors : (has has' : List ℕ → Bool) (t : Constraints) (all any one negated : Branches) → AreSame has has' all → AreSame has has' any → AreSame has has' one → AreSame has has' negated
    → meets_presence (validations t all any one negated) has ≡ meets_presence (validations t all any one negated) has'
same_junctors has has' t all any one negated p q r s = λ i. p.all i && ((is_absent any || q.any i) && ((is_absent one || nat_eq (r.count i) 1) && not (s.any i)))

mutual
  holds_same : (has has' : List ℕ → Bool) (cs : Validations) → Agree has has' (names_in cs) → holds_by (has_names has) cs ≡ holds_by (has_names has') cs
  holds_same has has' (validations t all any one negated) h =
      let own = names_same has has' t.required (λ k a. h k (among_left t.required (names_of all ++ (names_of any ++ (names_of one ++ names_of negated))) k a)) in
      let rest : Agree has has' (names_of all ++ (names_of any ++ (names_of one ++ names_of negated))) = λ k a. h k (among_right t.required (names_of all ++ (names_of any ++ (names_of one ++ names_of negated))) k a) in
      let rest_all = agree_right has has' (names_of all) (names_of any ++ (names_of one ++ names_of negated)) rest in
      let rest_any = agree_right has has' (names_of any) (names_of one ++ names_of negated) rest_all in
      let p = all_same has has' all (agree_left has has' (names_of all) (names_of any ++ (names_of one ++ names_of negated)) rest) in
      let q = all_same has has' any (agree_left has has' (names_of any) (names_of one ++ names_of negated) rest_all) in
      let r = all_same has has' one (agree_left has has' (names_of one) (names_of negated) rest_any) in
      let s = all_same has has' negated (agree_right has has' (names_of one) (names_of negated) rest_any) in
      let same = same_junctors has has' t all any one negated p q r s in
      λ i. own i && same i

  all_same : (has has' : List ℕ → Bool) (bs : Branches) → Agree has has' (names_of bs) → AreSame has has' bs
  all_same has has' no_branches h = record { all = refl; any = refl; count = refl }
  all_same has has' (branch c bs) h =
      let p = holds_same has has' c (agree_left has has' (names_in c) (names_of bs) h) in
      let q = all_same has has' bs (agree_right has has' (names_in c) (names_of bs) h) in
      record { all = λ i. p i && q.all i; any = λ i. p i || q.any i; count = λ i. (if p i then 1 else 0) + q.count i }

meets_same : (has has' : List ℕ → Bool) (cs : Validations) → Agree has has' (names_in cs) → meets_presence cs has ≡ meets_presence cs has'
meets_same has has' (validations t all any one negated) h =
    let rest = agree_right has has' t.required (names_of all ++ (names_of any ++ (names_of one ++ names_of negated))) h in
    let rest_all = agree_right has has' (names_of all) (names_of any ++ (names_of one ++ names_of negated)) rest in
    let rest_any = agree_right has has' (names_of any) (names_of one ++ names_of negated) rest_all in
    same_junctors has has' t all any one negated (all_same has has' all (agree_left has has' (names_of all) (names_of any ++ (names_of one ++ names_of negated)) rest))
    (all_same has has' any (agree_left has has' (names_of any) (names_of one ++ names_of negated) rest_all)) (all_same has has' one (agree_left has has' (names_of one) (names_of negated) rest_any))
    (all_same has has' negated (agree_right has has' (names_of one) (names_of negated) rest_any))

-- ---- where a row may end

count_in : (ss : List Slot) (gs : List (Option Data)) (x : Before) → (state_after ss gs x).count ≡ x.count + fault.members_count (members_in ss gs)
count_in [] gs x = omega arith
count_in (s ∷ ss) [] x = omega arith
count_in (s ∷ ss) (None ∷ gs) x = count_in ss gs x
count_in (s ∷ ss) (Some v ∷ gs) x = omega (arith, count_in ss gs (filled s.bit x))

meets_in : (cs : Validations) (ss : List Slot) (gs : List (Option Data)) → HaveBits (named cs) ss → meets_seen cs (state_after ss gs nothing).seen ≡ meets_presence cs (has_member (members_in ss gs))
meets_in cs ss gs h =
    meets_same (λ k. is_set (bit_of k (named cs)) (state_after ss gs nothing).seen) (has_member (members_in ss gs)) cs
    (λ k a. seen_in (named cs) k (in_order_has (names_in cs) k a) ss gs nothing h ∙ ap (λ b. b || is_some (member_at k (members_in ss gs))) (never_set (bit_of k (named cs))))

-- a row may end after its slots exactly where the object of the members in them has as many as it may, and meets the junctors
pub ends_in : (e : Ending) (ss : List Slot) (gs : List (Option Data)) → HaveBits (named e.asked) ss
    → MayEnd e (state_after ss gs nothing) ↔ (IsWithin e.bounds (fault.members_count (members_in ss gs)) × (meets_presence e.asked (has_member (members_in ss gs)) ≡ true))
ends_in e ss gs h =
    let count : (state_after ss gs nothing).count ≡ fault.members_count (members_in ss gs) = omega (arith, count_in ss gs nothing) in
    let meets = meets_in e.asked ss gs h in (
      (λ x. (subst (IsWithin e.bounds) count x.0, sym meets ∙ x.1)),
      λ x. (subst (IsWithin e.bounds) (sym count) x.0, meets ∙ x.1),
    )

-- ---- numbers with the same bits of the named fields

abbrev AgreeBelow : ℕ → ℕ → ℕ → Type 0
AgreeBelow n a b = (j : ℕ) → j < n → bit_at a j ≡ bit_at b j

with_agree : (n a b : ℕ) (o : Option ℕ) → AgreeBelow n a b → AgreeBelow n (with_bit o a) (with_bit o b)
with_agree n a b None h j l = h j l
with_agree n a b (Some i) h j l = omega (arith, bit_at_or a (2 ^ i) j, bit_at_or b (2 ^ i) j, h j l)

sees_agree : (names : List (List ℕ)) (a b : ℕ) → AgreeBelow (length names) a b → (k : List ℕ) → is_set (bit_of k names) a ≡ is_set (bit_of k names) b
sees_agree names a b h k = elim (option_cases (bit_of k names)) [
  | inl none ↦ rw none refl
  | inr j ↦ rw (j.1, h j.0 (bit_below k names j.0 j.1)) refl
]

meets_agree : (cs : Validations) (a b : ℕ) → AgreeBelow (length (named cs)) a b → meets_seen cs a ≡ meets_seen cs b
meets_agree cs a b h = ap (meets_presence cs) (λ i k. sees_agree (named cs) a b h k i)

ends_agree : (e : Ending) (ss : List Slot) (gs : List (Option Data)) (t a b : ℕ) → AgreeBelow (length (named e.asked)) a b → MayEnd e (state_after ss gs (record { count = t; seen = a })) → MayEnd e (state_after ss gs (record { count = t; seen = b }))
ends_agree e [] gs t a b h m = (m.0, sym (meets_agree e.asked a b h) ∙ m.1)
ends_agree e (s ∷ ss) [] t a b h m = (m.0, sym (meets_agree e.asked a b h) ∙ m.1)
ends_agree e (s ∷ ss) (None ∷ gs) t a b h m = ends_agree e ss gs t a b h m
ends_agree e (s ∷ ss) (Some v ∷ gs) t a b h m = ends_agree e ss gs (t + 1) (with_bit s.bit a) (with_bit s.bit b) (with_agree (length (named e.asked)) a b s.bit h) m

fill_agree : (P : Pools) (ss : List Slot) (e : Ending) (t a b m : ℕ) → AgreeBelow (length (named e.asked)) a b → CanFill P ss e (record { count = t; seen = a }) m → CanFill P ss e (record { count = t; seen = b }) m
fill_agree P ss e t a b m h f = record { fillings = f.fillings; are = f.are; ends = ends_agree e ss f.fillings t a b h f.ends; nodes_are = f.nodes_are }

low_agree : (n a : ℕ) → AgreeBelow n (a % 2 ^ n) a
low_agree n a j l = let whole : a / 2 ^ n * 2 ^ n + a % 2 ^ n ≡ a = omega arith in rw whole at (sym (bit_at_cat_low (a / 2 ^ n) n (a % 2 ^ n) j l))

-- the bits of the named fields alone matter
pub low_up_to : (limit : ℕ) (P : Pools) (ss : List Slot) (e : Ending) (t a : ℕ) (A : ℕ → Type 0) → IsUpTo limit A (CanFill P ss e (record { count = t; seen = a % 2 ^ length (named e.asked) })) → IsUpTo limit A (CanFill P ss e (record { count = t; seen = a }))
low_up_to limit P ss e t a A h m =
    let n = length (named e.asked) in
    let low = a % 2 ^ n in (
      (λ x. let y = (h m).0 x in (y.0, fill_agree P ss e t low a m (low_agree n a) y.1)),
      λ y. (h m).1 (y.0, fill_agree P ss e t a low m (λ j l. sym (low_agree n a j l)) y.1),
    )

-- ---- numbers below a power

pub with_below : (n : ℕ) (o : Option ℕ) (seen : ℕ) → IfSome o (λ j. j < n) → seen < 2 ^ n → with_bit o seen < 2 ^ n
with_below n None seen h l = l
with_below n (Some j) seen h l = or_lt n seen (2 ^ j) l (pow_below j n h)

pub closed_of : (n : ℕ) (o : Option ℕ) → n ≤ most_named → IfSome o (λ j. j < n) → IsClosed (2 ^ n) o
closed_of n None few h = (tt, λ seen l. l)
closed_of n (Some j) few h = (omega arith, λ seen l. with_below n (Some j) seen h l)

-- ---- what is met

one_met : (seen : ℕ) (b : Bool) → seen < 1 → get_or (true ∷ []) seen b ≡ true
one_met zero b l = refl
one_met (suc seen) b l = absurd (omega arith)

-- a map has no junctors
pub map_met : AreMet no_validations (true ∷ [])
map_met = record { whole = refl; each = one_met }

-- an object has its own
pub object_met : (cs : Validations) (names : List (List ℕ)) (ends : List Bool) → names ≡ named cs → length ends ≡ 2 ^ length names
    → ((seen : ℕ) (b : Bool) → seen < length ends → get_or ends seen b ≡ meets_presence cs (is_seen names seen)) → AreMet cs ends
object_met cs names ends same whole each = record { whole = rw same at whole; each = λ seen b l. rw same at (each seen b l) }
