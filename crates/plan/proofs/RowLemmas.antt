-- The sizes that the slots of a row can take, from the last slot to the first.
use Rattle.std.specs.Prelude.{◌≡◌, ℕ, zero, suc, ◌+◌, ◌-◌, ◌≤◌, ◌<◌, ◌⊎◌, ◌↔◌, true, false, not, ◌&&◌, List, Option, Some, None, drop, min, option_map, unwrap_or}
use Rattle.std.proofs.Common.{refl, ap, sym, inl, inr, arith, [], ◌∷◌, ◌++◌, length, get_or}
use Rattle.std.proofs.lemmas.Bool.{and_parts, and_from, cases_lt, le-ltb, ltb-false, not-true}
use Rattle.std.specs.declared.vec.Vec.{Vec}
use Rattle.std.specs.declared.alloc.Global.{Global}
use Rattle.jtree.specs.Data.{Data}
use Rattle.jtree.specs.Nodes.{node_count}
use Rattle.schema.specs.declared.node.Bounds.{Bounds}
use Rattle.stored.specs.Objects.Tests.{is_below, is_above}
use Rattle.stored.specs.Objects.StoredByParts.{IsWithin}
use Rattle.plan.specs.Pools.Pools.{Pools}
use Rattle.plan.specs.Sets.{IsSum}
use Rattle.plan.specs.Samples.Presence.{with_bit}
use Rattle.plan.specs.Samples.Sites.{Slot}
use Rattle.plan.specs.Samples.Sizes.{HasSize, AreFillings, filled_nodes, Before, filled, state_after, Ending, MayEnd, CanFill, IsUpTo}
use Rattle.plan.specs.Internal.Tables.{cap, columns, IsLevel, IsTable, HasShape, AreChoices, AreShaped, AreTables}
use Rattle.plan.specs.declared.rows.Choice.{Choice}
use Rattle.plan.proofs.SizeLemmas.{sum_up_to, each_push}

-- what the test of bounds says
pub within_of : (b : Bounds) (n : ℕ) → (not (is_below b.least n) && not (is_above b.most n)) ≡ true → IsWithin b n
within_of b n h = let both = and_parts _ _ h in (not-true _ both.0, not-true _ both.1)

pub within_from : (b : Bounds) (n : ℕ) → IsWithin b n → (not (is_below b.least n) && not (is_above b.most n)) ≡ true
within_from b n w = and_from _ _ (ap not w.0) (ap not w.1)

no_fillings : (P : Pools) (e : Ending) (x : Before) (m : ℕ) (gs : List (Option Data)) → AreFillings P [] gs → MayEnd e (state_after [] gs x) → filled_nodes gs ≡ m → (m ≡ 0) × MayEnd e x
no_fillings P e x m [] h ends nodes = (sym nodes, ends)
no_fillings P e x m (g ∷ gs) h ends nodes = absurd h

-- no slot is left
pub fill_none : (P : Pools) (e : Ending) (x : Before) (m : ℕ) → CanFill P [] e x m ↔ ((m ≡ 0) × MayEnd e x)
fill_none P e x m = (
  (λ h. no_fillings P e x m h.fillings h.are h.ends h.nodes_are),
  λ h. record { fillings = []; are = tt; ends = h.1; nodes_are = sym h.0 },
)

slot_fillings : (P : Pools) (s : Slot) (ss : List Slot) (e : Ending) (x : Before) (m : ℕ) (gs : List (Option Data)) → AreFillings P (s ∷ ss) gs → MayEnd e (state_after (s ∷ ss) gs x) → filled_nodes gs ≡ m
    → ((s.must ≡ false) × CanFill P ss e x m) ⊎ IsSum (HasSize P s.site) (CanFill P ss e (filled s.bit x)) m
slot_fillings P s ss e x m [] h ends nodes = absurd h
slot_fillings P s ss e x m (None ∷ gs) h ends nodes = inl (h.0, record { fillings = gs; are = h.1; ends = ends; nodes_are = nodes })
slot_fillings P s ss e x m (Some v ∷ gs) h ends nodes =
    inr (node_count v, (filled_nodes gs, (record { part = v; is = h.0; nodes_are = refl }, record { fillings = gs; are = h.1; ends = ends; nodes_are = refl }, nodes)))

-- one slot more: left out, or given a part
pub fill_slot : (P : Pools) (s : Slot) (ss : List Slot) (e : Ending) (x : Before) (m : ℕ) → CanFill P (s ∷ ss) e x m ↔ (((s.must ≡ false) × CanFill P ss e x m) ⊎ IsSum (HasSize P s.site) (CanFill P ss e (filled s.bit x)) m)
fill_slot P s ss e x m = (
  (λ h. slot_fillings P s ss e x m h.fillings h.are h.ends h.nodes_are),
  λ s'. elim s' as (λ _. CanFill P (s ∷ ss) e x m) [
    | inl h ↦ record { fillings = None ∷ h.1.fillings; are = (h.0, h.1.are); ends = h.1.ends; nodes_are = h.1.nodes_are }
    | inr h ↦
        let v = h.1.1.0 in
        let r = h.1.1.1 in
        record { fillings = Some v.part ∷ r.fillings; are = (v.is, r.are); ends = r.ends; nodes_are = omega (arith, v.nodes_are, r.nodes_are, h.1.1.2) }
  ],
)

-- the end, after the last slot
pub end_up_to : (limit : ℕ) (P : Pools) (e : Ending) (x : Before) (S : ℕ → Type 0) → ((n : ℕ) → S n ↔ ((n ≡ 0) × MayEnd e x)) → IsUpTo limit S (CanFill P [] e x)
end_up_to limit P e x S s n = (
  (λ h. let q = (s n).0 h in (omega (arith, q.0), (fill_none P e x n).1 q)),
  λ h. (s n).1 ((fill_none P e x n).0 h.1),
)

-- one slot more
pub slot_up_to : (limit : ℕ) (P : Pools) (s : Slot) (ss : List Slot) (e : Ending) (x : Before) (A W V S : ℕ → Type 0) → IsUpTo limit A (HasSize P s.site) → IsUpTo limit W (CanFill P ss e x) → IsUpTo limit V (CanFill P ss e (filled s.bit x))
    → ((n : ℕ) → S n ↔ (((s.must ≡ false) × W n) ⊎ ((n ≤ limit) × IsSum A V n))) → IsUpTo limit S (CanFill P (s ∷ ss) e x)
slot_up_to limit P s ss e x A W V S a w v set n =
    let G : ℕ → Type 0 = λ k. (k ≤ limit) × IsSum A V k in
    let g = sum_up_to limit A V (HasSize P s.site) (CanFill P ss e (filled s.bit x)) a v G (λ k. ((λ y. y), λ y. y)) n in
    let r = fill_slot P s ss e x n in (
      (λ h. elim ((set n).0 h) as (λ _. (n ≤ limit) × CanFill P (s ∷ ss) e x n) [
        | inl y ↦ let z = (w n).0 y.1 in (z.0, r.1 (inl (y.0, z.1)))
        | inr y ↦ let z = g.0 y in (z.0, r.1 (inr z.1))
      ]),
      λ h.
          (set n).1
          (elim (r.0 h.1) as (λ _. ((s.must ≡ false) × W n) ⊎ ((n ≤ limit) × IsSum A V n)) [
            | inl y ↦ inl (y.0, (w n).1 (h.0, y.1))
            | inr y ↦ inr (g.1 (h.0, y))
          ]),
    )

-- ---- numbers of members that are alike to the bounds

high_enough : (o : Option ℕ) (n : ℕ) → unwrap_or o 0 ≤ n → is_below o n ≡ false
high_enough None n l = refl
high_enough (Some least) n l = le-ltb n least l

both_above : (o : Option ℕ) (n m : ℕ) → unwrap_or (option_map suc o) 0 ≤ n → is_above o n ≡ false → is_above o m ≡ false
both_above None n m l h = refl
both_above (Some most) n m l h = let within = ltb-false most n h in absurd (omega arith)

past_within : (b : Bounds) (n m : ℕ) → cap b ≤ n → cap b ≤ m → IsWithin b n → IsWithin b m
past_within b n m l k h = (high_enough b.least m (omega arith), both_above b.most n m (omega arith) h.1)

past_ends : (e : Ending) (ss : List Slot) (gs : List (Option Data)) (n m seen : ℕ) → cap e.bounds ≤ n → cap e.bounds ≤ m → MayEnd e (state_after ss gs (record { count = n; seen = seen })) → MayEnd e (state_after ss gs (record { count = m; seen = seen }))
past_ends e [] gs n m seen l k h = (past_within e.bounds n m l k h.0, h.1)
past_ends e (s ∷ ss) [] n m seen l k h = (past_within e.bounds n m l k h.0, h.1)
past_ends e (s ∷ ss) (None ∷ gs) n m seen l k h = past_ends e ss gs n m seen l k h
past_ends e (s ∷ ss) (Some v ∷ gs) n m seen l k h = past_ends e ss gs (n + 1) (m + 1) (with_bit s.bit seen) (omega arith) (omega arith) h

past_fill : (P : Pools) (ss : List Slot) (e : Ending) (n m seen x : ℕ) → cap e.bounds ≤ n → cap e.bounds ≤ m → CanFill P ss e (record { count = n; seen = seen }) x → CanFill P ss e (record { count = m; seen = seen }) x
past_fill P ss e n m seen x l k f = record { fillings = f.fillings; are = f.are; ends = past_ends e ss f.fillings n m seen l k f.ends; nodes_are = f.nodes_are }

-- what the cap has, each greater number of members has
pub column_up_to : (limit : ℕ) (P : Pools) (ss : List Slot) (e : Ending) (taken seen : ℕ) (A : ℕ → Type 0) → IsUpTo limit A (CanFill P ss e (record { count = min taken (cap e.bounds); seen = seen })) → IsUpTo limit A (CanFill P ss e (record { count = taken; seen = seen }))
column_up_to limit P ss e taken seen A h =
    elim (cases_lt taken (cap e.bounds)) as (λ _. IsUpTo limit A (CanFill P ss e (record { count = taken; seen = seen }))) [
      | inl below ↦ let same : min taken (cap e.bounds) ≡ taken = omega arith in rw same at h
      | inr past ↦
          let same : min taken (cap e.bounds) ≡ cap e.bounds = omega arith in
          let at : IsUpTo limit A (CanFill P ss e (record { count = cap e.bounds; seen = seen })) = rw same at h in
          let here : cap e.bounds ≤ cap e.bounds = omega arith in
          λ n. (
            (λ x. let y = (at n).0 x in (y.0, past_fill P ss e (cap e.bounds) taken seen n here past y.1)),
            λ y. (at n).1 (y.0, past_fill P ss e taken (cap e.bounds) seen n past here y.1),
          )
    ]

-- ---- levels

-- one set more in a level
pub level_more : {Z : Type 0} (holds : Z → ℕ → Type 0) (limit : ℕ) (e : Ending) (P : Pools) (ss : List Slot) (seen : ℕ) (level : List Z) (z : Z) → IsLevel holds limit e P ss seen level
    → IsUpTo limit (holds z) (CanFill P ss e (record { count = length level; seen = seen })) → IsLevel holds limit e P ss seen (level ++ z ∷ [])
level_more holds limit e P ss seen level z h here = each_push (λ t x. IsUpTo limit (holds x) (CanFill P ss e (record { count = t; seen = seen }))) level z h here

-- one level more in a table
pub table_more : {Z : Type 0} (holds : Z → ℕ → Type 0) (limit : ℕ) (e : Ending) (P : Pools) (ss : List Slot) (table : List (Vec Z Global)) (level : Vec Z Global) → IsTable holds limit e P ss table
    → IsLevel holds limit e P ss (length table) level.items → IsTable holds limit e P ss (table ++ level ∷ [])
table_more {Z} holds limit e P ss table level h here = each_push (λ seen (v : Vec Z Global). IsLevel holds limit e P ss seen v.items) table level h here

-- all levels are so wide
abbrev pub AreWide : {Z : Type 0} → ℕ → List (Vec Z Global) → Type 0
AreWide {Z} width table = (seen : ℕ) (d : Vec Z Global) → seen < length table → length (get_or table seen d).items ≡ width

pub wide_more : {Z : Type 0} (width : ℕ) (table : List (Vec Z Global)) (level : Vec Z Global) → AreWide width table → length level.items ≡ width → AreWide width (table ++ level ∷ [])
wide_more {Z} width table level h here = each_push (λ seen (v : Vec Z Global). length v.items ≡ width) table level h here

-- the choice and the slot at a place
pub choice_slot : {Z : Type 0} (holds : Z → ℕ → Type 0) (limit : ℕ) (P : Pools) (cs : List (Choice Z)) (ss : List Slot) → AreChoices holds limit P cs ss → (i : ℕ) (c : Choice Z) → i < length cs
    → (s : Slot) × (drop i ss ≡ s ∷ drop (suc i) ss) × IsUpTo limit (holds (get_or cs i c).sizes) (HasSize P s.site) × ((get_or cs i c).must ≡ s.must) × ((get_or cs i c).bit ≡ s.bit)
choice_slot holds limit P [] ss h i c l = absurd (omega arith)
choice_slot holds limit P (x ∷ cs) [] h i c l = absurd h
choice_slot holds limit P (x ∷ cs) (s ∷ ss) h zero c l = (s, refl, h.0, h.1, h.2)
choice_slot holds limit P (x ∷ cs) (s ∷ ss) h (suc i) c l = choice_slot holds limit P cs ss h.3 i c (omega arith)

pub as_many : {Z : Type 0} (holds : Z → ℕ → Type 0) (limit : ℕ) (P : Pools) (cs : List (Choice Z)) (ss : List Slot) → AreChoices holds limit P cs ss → length cs ≡ length ss
as_many holds limit P [] [] h = refl
as_many holds limit P [] (s ∷ ss) h = absurd h
as_many holds limit P (c ∷ cs) [] h = absurd h
as_many holds limit P (c ∷ cs) (s ∷ ss) h = ap suc (as_many holds limit P cs ss h.3)

pub drop_all : {X : Type 0} (xs : List X) → drop (length xs) xs ≡ []
drop_all [] = refl
drop_all (x ∷ xs) = drop_all xs

pub shaped_more : {Z : Type 0} (b : Bounds) (count kinds : ℕ) (tables : List (Vec (Vec Z Global) Global)) (table : Vec (Vec Z Global) Global) → AreShaped b count kinds tables → HasShape kinds (columns b (count - length tables)) table.items
    → AreShaped b count kinds (tables ++ table ∷ [])
shaped_more {Z} b count kinds tables table h here = each_push (λ k (v : Vec (Vec Z Global) Global). HasShape kinds (columns b (count - k)) v.items) tables table h here

pub tables_more : {Z : Type 0} (holds : Z → ℕ → Type 0) (limit : ℕ) (e : Ending) (P : Pools) (ss : List Slot) (tables : List (Vec (Vec Z Global) Global)) (table : Vec (Vec Z Global) Global) → AreTables holds limit e P ss tables
    → IsTable holds limit e P (drop (length ss - length tables) ss) table.items → AreTables holds limit e P ss (tables ++ table ∷ [])
tables_more {Z} holds limit e P ss tables table h here = each_push (λ k (v : Vec (Vec Z Global) Global). IsTable holds limit e P (drop (length ss - k) ss) v.items) tables table h here

-- the table after the last slot, the first one made
pub shaped_first : {Z : Type 0} (b : Bounds) (count kinds : ℕ) (table : Vec (Vec Z Global) Global) → HasShape kinds (columns b count) table.items → AreShaped b count kinds (table ∷ [])
shaped_first b count kinds table h =
    let z : count - 0 ≡ count = omega arith in
    shaped_more b count kinds [] table (λ k d l. absurd (omega arith)) (rw z h)

pub tables_first : {Z : Type 0} (holds : Z → ℕ → Type 0) (limit : ℕ) (e : Ending) (P : Pools) (ss : List Slot) (table : Vec (Vec Z Global) Global) → IsTable holds limit e P [] table.items → AreTables holds limit e P ss (table ∷ [])
tables_first holds limit e P ss table here =
    let z : length ss - 0 ≡ length ss = omega arith in
    tables_more holds limit e P ss [] table (λ k d l. absurd (omega arith)) (rw (z, drop_all ss) here)

-- the table of the next place, from that after it
pub tables_next : {Z : Type 0} (holds : Z → ℕ → Type 0) (limit : ℕ) (e : Ending) (P : Pools) (cs : List (Choice Z)) (ss : List Slot) (tables : List (Vec (Vec Z Global) Global)) (table after : Vec (Vec Z Global) Global) (choice : Choice Z) (done i : ℕ)
    → AreChoices holds limit P cs ss → length tables ≡ done + 1 → i + done + 1 ≡ length cs → AreTables holds limit e P ss tables → choice ≡ get_or cs i choice → after ≡ get_or tables done after
    → ((s : Slot) (rest : List Slot) → IsUpTo limit (holds choice.sizes) (HasSize P s.site) → choice.must ≡ s.must → choice.bit ≡ s.bit → IsTable holds limit e P rest after.items → IsTable holds limit e P (s ∷ rest) table.items)
    → AreTables holds limit e P ss (tables ++ table ∷ [])
tables_next holds limit e P cs ss tables table after choice done i h whole place before is_choice is_after makes =
    let many = as_many holds limit P cs ss h in
    let s = choice_slot holds limit P cs ss h i choice (omega arith) in
    let p : length ss - done ≡ suc i = omega arith in
    let f : length ss - length tables ≡ i = omega arith in
    let here = rw (← is_after, p) at (before done after (omega arith)) in
    let made = makes s.0 (drop (suc i) ss) (rw (← is_choice) at s.2) (rw (← is_choice) at s.3) (rw (← is_choice) at s.4) here in
    tables_more holds limit e P ss tables table before (rw (f, s.1) made)

pub table_at : {Z : Type 0} (holds : Z → ℕ → Type 0) (limit : ℕ) (e : Ending) (P : Pools) (ss : List Slot) (table : List (Vec Z Global)) (seen : ℕ) (level : Vec Z Global) (items : List Z) → IsTable holds limit e P ss table → seen < length table → level ≡ get_or table seen level
    → items ≡ level.items → IsLevel holds limit e P ss seen items
table_at holds limit e P ss table seen level items h l is same = rw same (rw (← is) at (h seen level l))

pub shape_at : {Z : Type 0} (b : Bounds) (count kinds : ℕ) (tables : List (Vec (Vec Z Global) Global)) (k : ℕ) (table : Vec (Vec Z Global) Global) (items : List (Vec Z Global)) → AreShaped b count kinds tables → k < length tables → table ≡ get_or tables k table → items ≡ table.items
    → HasShape kinds (columns b (count - k)) items
shape_at b count kinds tables k table items h l is same = rw same (rw (← is) at (h k table l))

pub width_at : {Z : Type 0} (kinds width : ℕ) (table : List (Vec Z Global)) (seen : ℕ) (level : Vec Z Global) → HasShape kinds width table → seen < length table → level ≡ get_or table seen level → length level.items ≡ width
width_at kinds width table seen level h l is = rw (← is) at (h.wide seen level l)
