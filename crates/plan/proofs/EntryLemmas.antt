-- The entries of rows and lists.
use Rattle.std.specs.Prelude.{◌≡◌, ℕ, zero, suc, ◌+◌, ◌-◌, ◌^◌, ◌≤◌, ◌<◌, ◌⊎◌, ◌↔◌, Bool, true, List, All}
use Rattle.std.proofs.lemmas.Nat.{pow_pos}
use Rattle.std.proofs.Common.{refl, ap, sym, ◌∙◌, arith, [], ◌∷◌, ◌++◌, length, get_or}
use Rattle.std.specs.declared.vec.Vec.{Vec}
use Rattle.std.specs.declared.alloc.Global.{Global}
use Rattle.schema.specs.Nodes.Node.{IsNode}
use Rattle.plan.specs.Pools.Pools.{Pools}
use Rattle.plan.specs.Sets.{IsSum}
use Rattle.plan.specs.Samples.Presence.{named}
use Rattle.plan.specs.Samples.Sites.{Site, Slot, slots}
use Rattle.plan.specs.Samples.Candidates.{sort_of}
use Rattle.plan.specs.Samples.Sizes.{HasSize, Ending, nothing, ending_of, CanFill, IsUpTo}
use Rattle.plan.specs.Samples.RuleOfParts.{admits_null}
use Rattle.plan.specs.Internal.Tables.{IsClosed, AreMet, columns, IsTable, AreChoices, AreShaped, AreTables}
use Rattle.plan.specs.Internal.PartLaws.{PartLaws}
use Rattle.plan.specs.Internal.Arena.{AreSlots, AreLater, IsChosen, AreChosen, IsRight, AreRightBelow, AreRight}
use Rattle.plan.specs.Samples.Sites.{site_at}
use Rattle.plan.specs.declared.sort.Sort.TheVariants.{Row}
use Rattle.plan.specs.declared.values.Values.{Values}
use Rattle.plan.specs.declared.rows.Choice.{Choice}
use Rattle.plan.specs.declared.arena.SlotEntry.{SlotEntry}
use Rattle.plan.specs.declared.arena.Content.TheVariants as content
use Rattle.plan.specs.declared.arena.Entry.{Entry}
use Rattle.plan.proofs.RowLemmas.{shape_at, width_at, table_at}
use Rattle.plan.proofs.SiteLemmas.{whole_up_to, row_sizes}
use Rattle.plan.proofs.SizeLemmas.{each_push}

pub chosen_push : {Z : Type 0} (es : List (Entry Z)) (cs : List (Choice Z)) (xs : List SlotEntry) (c : Choice Z) (x : SlotEntry) → AreChosen es cs xs → IsChosen es c x → AreChosen es (cs ++ c ∷ []) (xs ++ x ∷ [])
chosen_push es [] [] c x h here = (here, tt)
chosen_push es [] (y ∷ xs) c x h here = absurd h
chosen_push es (d ∷ cs) [] c x h here = absurd h
chosen_push es (d ∷ cs) (y ∷ xs) c x h here = (h.0, chosen_push es cs xs c x h.1 here)

pub chosen_count : {Z : Type 0} (es : List (Entry Z)) (cs : List (Choice Z)) (xs : List SlotEntry) → AreChosen es cs xs → length cs ≡ length xs
chosen_count es [] [] h = refl
chosen_count es [] (y ∷ xs) h = absurd h
chosen_count es (d ∷ cs) [] h = absurd h
chosen_count es (d ∷ cs) (y ∷ xs) h = ap suc (chosen_count es cs xs h.1)

pub chosen_choices : {Z : Type 0} (holds : Z → ℕ → Type 0) (limit : ℕ) (P : Pools) (v : Values) (sites : List Site) (es : List (Entry Z)) (i : ℕ) (cs : List (Choice Z)) (xs : List SlotEntry) (ss : List Slot)
    → AreRightBelow holds limit P v sites i es → AreChosen es cs xs → AreSlots v.names.items sites i xs ss → AreChoices holds limit P cs ss
chosen_choices holds limit P v sites es i [] [] [] right h s = tt
chosen_choices holds limit P v sites es i [] [] (y ∷ ss) right h s = absurd s
chosen_choices holds limit P v sites es i [] (x ∷ xs) ss right h s = absurd h
chosen_choices holds limit P v sites es i (c ∷ cs) [] ss right h s = absurd h
chosen_choices holds limit P v sites es i (c ∷ cs) (x ∷ xs) [] right h s = absurd s
chosen_choices {Z = Z} holds limit P v sites es i (c ∷ cs) (x ∷ xs) (y ∷ ss) right h s =
    let e = h.0.entry in
    let r : IsRight holds limit P v sites x.node e = rw (← h.0.is) at (right x.node e s.0.below) in
    let sizes : IsUpTo limit (holds c.sizes) (HasSize P y.site) = rw (h.0.sizes, ← s.0.node) r.sizes in
    (sizes, h.0.must ∙ s.0.must, h.0.bit ∙ s.0.bit, chosen_choices holds limit P v sites es i cs xs ss right h.1 s.1)

-- a choice has the bit of its slot
pub chosen_closed : {Z : Type 0} (es : List (Entry Z)) (cs : List (Choice Z)) (xs : List SlotEntry) (kinds : ℕ) → AreChosen es cs xs → All (λ (x : SlotEntry). IsClosed kinds x.bit) xs → All (λ (c : Choice Z). IsClosed kinds c.bit) cs
chosen_closed es [] xs kinds h closed k d l = absurd (omega arith)
chosen_closed es (c ∷ cs) [] kinds h closed k d l = absurd h
chosen_closed es (c ∷ cs) (x ∷ xs) kinds h closed zero d l = rw h.0.bit (closed zero x (omega arith))
chosen_closed es (c ∷ cs) (x ∷ xs) kinds h closed (suc k) d l = chosen_closed es cs xs kinds h.1 (λ j y m. closed (suc j) y (omega arith)) k d (omega arith)

pub slot_count : (names : List (List ℕ)) (sites : List Site) (i : ℕ) (xs : List SlotEntry) (ss : List Slot) → AreSlots names sites i xs ss → length xs ≡ length ss
slot_count names sites i [] [] h = refl
slot_count names sites i [] (s ∷ ss) h = absurd h
slot_count names sites i (x ∷ xs) [] h = absurd h
slot_count names sites i (x ∷ xs) (s ∷ ss) h = ap suc (slot_count names sites i xs ss h.1)

-- one entry more that is right
pub right_push : {Z : Type 0} (holds : Z → ℕ → Type 0) (limit : ℕ) (P : Pools) (v : Values) (sites : List Site) (old new : List (Entry Z)) (e : Entry Z) (n : ℕ)
    → AreRight holds limit P v sites old → new ≡ old ++ e ∷ [] → n ≡ length old → IsRight holds limit P v sites n e → AreRight holds limit P v sites new
right_push {Z = Z} holds limit P v sites old new e n before is number here = rw is (each_push (λ i (x : Entry Z). IsRight holds limit P v sites i x) old e before (rw number at here))

-- the table before the first slot is the last one made, and nothing was seen there
first_set : {Z : Type 0} (holds : Z → ℕ → Type 0) (limit : ℕ) (e : Ending) (P : Pools) (ss : List Slot) (tables : List (Vec (Vec Z Global) Global)) (table : Vec (Vec Z Global) Global) (level : Vec Z Global) (z : Z) (count kinds : ℕ) → AreTables holds limit e P ss tables
    → AreShaped e.bounds count kinds tables → 0 < kinds → length tables ≡ count + 1 → count ≡ length ss → table ≡ get_or tables count table → level ≡ get_or table.items 0 level → z ≡ get_or level.items 0 z → IsUpTo limit (holds z) (CanFill P ss e nothing)
first_set holds limit e P ss tables table level z count kinds h shaped some whole same is is_level is_z =
    let shape = shape_at e.bounds count kinds tables count table table.items shaped (omega arith) is refl in
    let inside : 0 < length table.items = omega (arith, shape.whole) in
    let wide = width_at kinds (columns e.bounds (count - count)) table.items 0 level shape inside is_level in
    let none : length ss - count ≡ 0 = omega arith in
    let here : IsTable holds limit e P ss table.items = rw none at (rw (← is) at (h count table (omega arith))) in
    rw (← is_z) at (table_at holds limit e P ss table.items 0 level level.items here inside is_level refl 0 z (omega (arith, wide)))

-- the entry of a row, from the choices of its slots
pub row_right : {Z : Type 0} (holds : Z → ℕ → Type 0) (limit : ℕ) (P : Pools) (v : Values) (sites : List Site) (i : ℕ) (slots' : Vec SlotEntry Global) (later : Vec ℕ Global) (tables : Vec (Vec (Vec Z Global) Global) Global) (e : Ending) (ends : List Bool) (nullable : Bool)
    (table : Vec (Vec Z Global) Global) (level : Vec Z Global) (z sizes : Z)
    → PartLaws → 1 ≤ limit → IsNode (site_at sites i).node → sort_of (site_at sites i) ≡ Row → ending_of P (site_at sites i) ≡ e → AreMet e.asked ends → admits_null P (site_at sites i) ≡ nullable
    → AreSlots v.names.items sites i slots'.items (slots P (site_at sites i)) → All (λ (x : SlotEntry). IsClosed (length ends) x.bit) slots'.items → length later.items ≡ length slots'.items → AreLater P (slots P (site_at sites i)) later.items
    → length tables.items ≡ length slots'.items + 1 → AreShaped e.bounds (length slots'.items) (length ends) tables.items → AreTables holds limit e P (slots P (site_at sites i)) tables.items
    → table ≡ get_or tables.items (length slots'.items) table → level ≡ get_or table.items 0 level → z ≡ get_or level.items 0 z
    → ((n : ℕ) → holds sizes n ↔ (((nullable ≡ true) × (n ≡ 1)) ⊎ ((n ≤ limit) × IsSum (λ i. i ≡ 1) (holds z) n)))
    → IsRight holds limit P v sites i (record { sizes = sizes; nullable = nullable; content = content.Row (record { slots = slots'; later = later; tables = tables }) })
row_right holds limit P v sites i slots' later tables e ends nullable table level z sizes laws room o sort ending met null are closed later_whole later_are whole shaped tables_are is is_level is_z sized =
    let s = site_at sites i in
    let here = rw (← ending) at tables_are in
    let shape = rw (met.whole, ← ending) at shaped in
    let first = first_set holds limit (ending_of P s) P (slots P s) tables.items table level z (length slots'.items) (2 ^ length (named (ending_of P s).asked)) here shape (pow_pos (length (named (ending_of P s).asked))) whole (slot_count v.names.items sites i slots'.items (slots P s) are) is is_level is_z in
    record {
      sizes = whole_up_to limit s P (CanFill P (slots P s) (ending_of P s) nothing) (holds z) (holds sizes) room (λ n l. row_sizes laws P s o sort n) first (rw (← null) at sized);
      nullable = sym null;
      content = record { sort = sort; are = are; bits = λ k d l. (closed k d l).0; later_whole = later_whole; later = later_are; whole = whole; shaped = shape; tables = here };
    }
