-- For private contracts: all failures of a value in order, level by level, and how a walk reports them.
use Rattle.std.specs.Prelude.{ℕ, suc, List, [], ◌∷◌, ◌++◌, map, max, Bool, false, Option, Some, None, option_map, if◌then◌else◌, string_bytes}
use Rattle.std.specs.Ordering.{match_ordering}
use Rattle.jtree.specs.Data.{Data, list, object, Items, no_items, item, Members, no_members, member, depth}
use Rattle.jtree.specs.Order.{text_cmp}
use Rattle.jtree.specs.Path.{Step, name, index}
use Rattle.jtree.specs.PathOrder.{step_cmp}
use Rattle.jtree.specs.Pointer.{pointer}
use Rattle.jtree.specs.View.{data_of}
use Rattle.judge.specs.Keywords.{all_tests}
use Rattle.judge.specs.Asked.{below, item_schema, member_schema, required, some_repeats, Place, value_at, missing}
use Rattle.judge.specs.Faults.{Asking, fails_at, Failure, Reported, reported}
use Rattle.judge.specs.declared.finding.Report.{Report}
use Rattle.judge.specs.declared.slots.Slot.{Slot}
use Rattle.judge.specs.declared.test.Test.{Test}

-- ---- of the value itself

abbrev pub here : Test → Failure
here t = record { path = []; test = t }

abbrev pub failing : (Test → Bool) → List Test → List Failure
failing fails [] = []
failing fails (t ∷ ts) = (if fails t then here t ∷ [] else []) ++ failing fails ts

abbrev pub own : Asking → Place → List Failure
own ask p = failing (fails_at ask p) all_tests

-- ---- of its parts

-- a part, by the step to it, and its failures
pub record Below : Type 0 where
  pub step : Step
  pub failures : List Failure

abbrev pub down : Step → Failure → Failure
down s f = record { path = s ∷ f.path; test = f.test }

abbrev pub under : Step → List Failure → List Failure
under s fs = map (down s) fs

abbrev pub joined : List Below → List Failure
joined [] = []
joined (b ∷ bs) = under b.step b.failures ++ joined bs

-- the parts with one more, a missing name, where there is none of the name
abbrev pub no_part : Asking → List ℕ → Below
no_part ask k = record { step = name k; failures = own ask missing }

abbrev pub with_part : Asking → List ℕ → List Below → List Below
with_part ask k [] = no_part ask k ∷ []
with_part ask k (b ∷ bs) = match_ordering (step_cmp (name k) b.step) (no_part ask k ∷ b ∷ bs) (b ∷ bs) (b ∷ with_part ask k bs)

abbrev pub with_parts : Asking → List (List ℕ) → List Below → List Below
with_parts ask [] bs = bs
with_parts ask (k ∷ ks) bs = with_parts ask ks (with_part ask k bs)

abbrev pub whole : Asking → List Data → Bool → Data → List Below → List Failure
whole ask ss repeated v bs = own ask (value_at ss repeated v) ++ joined bs

abbrev mutual
  pub parts : Asking → Data → List Data → List Below
  parts ask (list ds) ss = item_parts ask ds ds 0 ss
  parts ask (object ms) ss = with_parts ask (required ss) (member_parts ask ms ss)
  parts ask _ ss = []

  pub item_parts : Asking → Items → Items → ℕ → List Data → List Below
  item_parts ask all no_items i ss = []
  item_parts ask all (item d ds) i ss =
      record { step = index i; failures = whole ask (below item_schema d ss) (some_repeats ss all i) d (parts ask d (below item_schema d ss)) } ∷ item_parts ask all ds (suc i) ss

  pub member_parts : Asking → Members → List Data → List Below
  member_parts ask no_members ss = []
  member_parts ask (member k d ms) ss =
      record { step = name k; failures = whole ask (below (member_schema k) d ss) false d (parts ask d (below (member_schema k) d ss)) } ∷ member_parts ask ms ss

abbrev pub found : Asking → List Data → Bool → Data → List Failure
found ask ss repeated v = whole ask ss repeated v (parts ask v ss)

-- of any place
abbrev pub parts_of : Asking → Place → List Below
parts_of ask (value_at ss repeated v) = parts ask v ss
parts_of ask missing = []

abbrev pub found_at : Asking → Place → List Failure
found_at ask p = own ask p ++ joined (parts_of ask p)

-- ---- the names of an object, with those that are missing

-- a name, and the value under it, where it is not missing
pub record Named : Type 0 where
  pub name : List ℕ
  pub value : Option Data

abbrev pub named_by : Slot → Named
named_by s = record { name = s.name.now; value = option_map (λ t. data_of t.now) s.value }

abbrev pub slots_of : List Slot → List Named
slots_of ss = map named_by ss

abbrev pub member_slots : Members → List Named
member_slots no_members = []
member_slots (member k d ms) = record { name = k; value = Some d } ∷ member_slots ms

abbrev pub no_value : List ℕ → Named
no_value k = record { name = k; value = None }

abbrev pub with_slot : List ℕ → List Named → List Named
with_slot k [] = no_value k ∷ []
with_slot k (s ∷ ss) = match_ordering (text_cmp k s.name) (no_value k ∷ s ∷ ss) (s ∷ ss) (s ∷ with_slot k ss)

abbrev pub with_slots : List (List ℕ) → List Named → List Named
with_slots [] ss = ss
with_slots (k ∷ ks) ss = with_slots ks (with_slot k ss)

abbrev pub found_under : Asking → List Data → List ℕ → Option Data → List Failure
found_under ask ss k None = own ask missing
found_under ask ss k (Some d) = found ask (below (member_schema k) d ss) false d

abbrev pub slot_parts : Asking → List Data → List Named → List Below
slot_parts ask ss [] = []
slot_parts ask ss (s ∷ slots) = record { step = name s.name; failures = found_under ask ss s.name s.value } ∷ slot_parts ask ss slots

-- how deep the values nest
abbrev pub value_depth : Option Data → ℕ
value_depth None = 0
value_depth (Some d) = depth d

abbrev pub slots_depth : List Named → ℕ
slots_depth [] = 0
slots_depth (s ∷ ss) = max (value_depth s.value) (slots_depth ss)

-- ---- as it is reported

-- the pointer of the place that a walk has come to, and what is reported so far
pub record Progress : Type 0 where
  pub pointer : List ℕ
  pub reported : List Reported

abbrev pub progress : Report → Progress
progress r = record { pointer = string_bytes r.pointer; reported = map reported r.faults.items }

abbrev pub reported_at : List ℕ → Failure → Reported
reported_at at f = record { path = at ++ pointer f.path; test = f.test }

abbrev pub added : Progress → List Failure → Progress
added p fs = record { pointer = p.pointer; reported = p.reported ++ map (reported_at p.pointer) fs }
