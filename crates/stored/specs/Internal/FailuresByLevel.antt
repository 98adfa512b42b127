-- For private contracts: all failures of a value at its node in order, level by level, and how a walk reports them. Members that
-- pruning drops are among them in a strict walk.
use Rattle.std.specs.Prelude.{ℕ, suc, List, [], ◌∷◌, ◌++◌, map, Bool, true, false, Option, Some, None, if◌then◌else◌, not, ◌&&◌, string_bytes}
use Rattle.std.specs.Str.{bytes_eq}
use Rattle.std.specs.Ordering.{is_lt}
use Rattle.jtree.specs.Data.{Data, Items, no_items, item, Members, no_members, member}
use Rattle.jtree.specs.Data as tree
use Rattle.jtree.specs.Order.{text_cmp}
use Rattle.jtree.specs.Path.{Step, name, index, Path, item_at}
use Rattle.jtree.specs.Pointer.{pointer}
use Rattle.schema.specs.Nodes.Node.{Node, node, object, map as map_of, list, Fields, no_fields, field}
use Rattle.stored.specs.Objects.Fault.{Test, F01, F02, F03, F04, F05, F06, F07, F08, F09, F10, F11, F12, F13, F14, F15, number, fails, are_alike, has_alike_before, HasFault}
use Rattle.stored.specs.Objects.AllFaults.{Failure, Reported, reported}
use Rattle.stored.specs.Objects.StrictFaults.{HasStrictFault}
use Rattle.stored.specs.declared.all_faults.Report.{Report}

-- what a walk finds
abbrev pub FailsWithin : Bool → Node → Data → Path → Test → Type 0
FailsWithin false N v = HasFault N v
FailsWithin true N v = HasStrictFault N v

-- ---- of the value itself

-- That an item repeats another is found by the list.
abbrev pub asks : Bool → Test → Node → Data → Bool
asks repeated F13 N v = repeated
asks repeated t N v = fails t N v

abbrev pub own_tests : List Test
own_tests = F01 ∷ F02 ∷ F03 ∷ F04 ∷ F05 ∷ F06 ∷ F07 ∷ F08 ∷ F09 ∷ F10 ∷ F11 ∷ F13 ∷ F14 ∷ []

abbrev pub here : Test → Failure
here t = record { path = []; test = t }

abbrev pub failing : (Test → Bool) → List Test → List Failure
failing test [] = []
failing test (t ∷ ts) = (if test t then here t ∷ [] else []) ++ failing test ts

abbrev pub own : Bool → Node → Data → List Failure
own repeated N v = failing (λ t. asks repeated t N v) own_tests

-- ---- of its parts

-- a part, by the step to it, and its failures
pub record Below : Type 0 where
  pub step : Step
  pub failures : List Failure

abbrev pub under : Step → List Failure → List Failure
under s [] = []
under s (f ∷ fs) = record { path = s ∷ f.path; test = f.test } ∷ under s fs

abbrev pub joined : List Below → List Failure
joined [] = []
joined (b ∷ bs) = under b.step b.failures ++ joined bs

abbrev pub value_parts : (Data → List Failure) → Members → List Below
value_parts failures no_members = []
value_parts failures (member k d ms) = record { step = name k; failures = failures d } ∷ value_parts failures ms

abbrev pub item_parts : (ℕ → Data → List Failure) → ℕ → Items → List Below
item_parts failures i no_items = []
item_parts failures i (item d ds) = record { step = index i; failures = failures i d } ∷ item_parts failures (suc i) ds

-- the members without those at the beginning whose names come before one
abbrev pub members_from : List ℕ → Members → Members
members_from k no_members = no_members
members_from k (member l d ms) = if is_lt (text_cmp l k) then members_from k ms else member l d ms

-- the members after the first one, where that has the name
abbrev pub members_past : List ℕ → Members → Members
members_past k no_members = no_members
members_past k (member l d ms) = if bytes_eq k l then ms else member l d ms

-- members that are dropped, where any are
abbrev pub dropped : Bool → Members → List Below
dropped false ms = []
dropped true ms = value_parts (λ d. here F15 ∷ []) ms

-- of those at the beginning whose names come before one
abbrev pub members_before : List ℕ → Members → Members
members_before k no_members = no_members
members_before k (member l d ms) = if is_lt (text_cmp l k) then member l d (members_before k ms) else no_members

-- the first member, where it has the name
abbrev pub first_at : List ℕ → Members → Option Data
first_at k no_members = None
first_at k (member l d ms) = if bytes_eq k l then Some d else None

-- what is wrong at a field, with its value or with that it has none
abbrev pub at_field : Bool → (Data → List Failure) → Option Data → List Failure
at_field required failures None = if required then here F12 ∷ [] else []
at_field required failures (Some d) = failures d

abbrev pub whole : Bool → Node → Data → List Below → List Failure
whole repeated N v bs = own repeated N v ++ joined bs

abbrev mutual
  pub parts : Bool → Node → Data → List Below
  parts strict (node nullable description (object fs preserves type bounds cs)) (tree.object ms) = field_parts strict (strict && not preserves) fs ms
  parts strict (node nullable description (map_of N type bounds)) (tree.object ms) = value_parts (λ d. whole false N d (parts strict N d)) ms
  parts strict (node nullable description (list N type keys bounds)) (tree.list ds) =
      item_parts (λ i d. whole (has_alike_before (are_alike type keys) i ds (item_at i ds)) N d (parts strict N d)) 0 ds
  parts strict _ _ = []

  -- fields and members are merged by name, and the members between fields may be dropped
  pub field_parts : Bool → Bool → Fields → Members → List Below
  field_parts strict drops no_fields ms = dropped drops ms
  field_parts strict drops (field k N required default fs) ms =
      dropped drops (members_before k ms)
      ++ (record { step = name k; failures = at_field required (λ d. whole false N d (parts strict N d)) (first_at k (members_from k ms)) }
      ∷ field_parts strict drops fs (members_past k (members_from k ms)))

-- all failures, that the value repeats an earlier item among them
abbrev pub found : Bool → Bool → Node → Data → List Failure
found strict repeated N v = whole repeated N v (parts strict N v)

-- ---- as it is reported

-- the pointer of the place that a walk has come to, and what is reported so far
pub record Progress : Type 0 where
  pub pointer : List ℕ
  pub reported : List Reported

abbrev pub progress : Report → Progress
progress r = record { pointer = string_bytes r.pointer; reported = map reported r.faults.items }

abbrev pub noted : Progress → List Reported → Progress
noted p ts = record { pointer = p.pointer; reported = p.reported ++ ts }

abbrev pub reported_at : List ℕ → Failure → Reported
reported_at at f = record { path = at ++ pointer f.path; number = number f.test }

abbrev pub added : Progress → List Failure → Progress
added p fs = noted p (map (reported_at p.pointer) fs)

-- tests by number, and whether they fail
abbrev pub outcomes : (Test → Bool) → List Test → List (ℕ × Bool)
outcomes test ts = map (λ t. (number t, test t)) ts

-- those that fail, at one place
abbrev pub failed : List ℕ → List (ℕ × Bool) → List Reported
failed at [] = []
failed at (t ∷ ts) = (if t.1 then record { path = at; number = t.0 } ∷ [] else []) ++ failed at ts
