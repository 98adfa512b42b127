-- For private contracts: what a walk over a schema passes, in path order: its places, and its keywords that have a limit.
use Rattle.std.specs.Prelude.{◌≡◌, ◌⊎◌, ◌↔◌, ℕ, suc, List, [], ◌∷◌, ◌++◌, length, Bool, true, false, Option, Some, None, if◌then◌else◌, nat_lt, nat_le, codes}
use Rattle.std.specs.Str.{bytes_eq}
use Rattle.std.specs.declared.cmp.Ordering.TheVariants.{Less}
use Rattle.jtree.specs.Data.{Data, list, object, Items, no_items, item, Members, no_members, member}
use Rattle.jtree.specs.Path.{Path, name, under}
use Rattle.jtree.specs.PathOrder.{path_cmp}
use Rattle.schema.specs.Document.Places.{Step, property, map_value, items, all_of, any_of, one_of, negation, Place, place_path, schema_at}
use Rattle.schema.specs.Document.Limits.{most, limited_by, size}
use Rattle.schema.specs.declared.limits.Limited.{Limited}
use Rattle.schema.specs.declared.limits.Limited.TheVariants.{Places, Steps}
use Rattle.schema.specs.declared.limits.Limits.{Limits}

pub data Event : Type 0 where
  -- the schema at a place
  entered : Place → Data → Event
  -- a keyword of a place, whose members or entries are limited, has so many
  counted : Place → List ℕ → Limited → ℕ → Event

abbrev pub event_path : Event → Path
event_path (entered p s) = place_path p
event_path (counted p k l n) = place_path p ++ (name k ∷ [])

-- which list of branches
pub data Junctor : Type 0 where
  all : Junctor
  any : Junctor
  one : Junctor

abbrev pub branch : Junctor → ℕ → Step
branch all i = all_of i
branch any i = any_of i
branch one i = one_of i

-- what a value is among the schemas, by the keyword or the name that it is under
pub data Part : Type 0 where
  a_schema : Step → Part
  properties : Part
  branches : Junctor → Part
  no_schema : Part

abbrev pub part_of : List ℕ → Part
part_of k =
    if bytes_eq k (codes "properties") then properties else
    if bytes_eq k (codes "additionalProperties") then a_schema map_value else
    if bytes_eq k (codes "items") then a_schema items else
    if bytes_eq k (codes "allOf") then branches all else
    if bytes_eq k (codes "anyOf") then branches any else
    if bytes_eq k (codes "oneOf") then branches one else
    if bytes_eq k (codes "not") then a_schema negation else no_schema

abbrev pub count_event : Place → List ℕ → Option Limited → ℕ → List Event
count_event p k None n = []
count_event p k (Some l) n = counted p k l n ∷ []

-- the event of a keyword itself
abbrev pub keyword_event : Place → List ℕ → Data → List Event
keyword_event p k d = count_event p k (limited_by k) (size d)

-- The events below a place: in the value of a keyword, or of a name under `properties`; in the members of a schema (its
-- keywords) or of `properties` (their names); in the entries of a junctor from an index on.
abbrev mutual
  pub part_events : Place → Part → Data → List Event
  part_events p (a_schema s) (object ms) = entered (p ++ (s ∷ [])) (object ms) ∷ member_events (p ++ (s ∷ [])) true ms
  part_events p properties (object ms) = member_events p false ms
  part_events p (branches j) (list ds) = item_events p j 0 ds
  part_events _ _ _ = []

  -- with true the members are keywords, with false they are names under `properties`
  pub member_events : Place → Bool → Members → List Event
  member_events p true no_members = []
  member_events p true (member k d ms) = keyword_event p k d ++ (part_events p (part_of k) d ++ member_events p true ms)
  member_events p false no_members = []
  member_events p false (member k d ms) = part_events p (a_schema (property k)) d ++ member_events p false ms

  pub item_events : Place → Junctor → ℕ → Items → List Event
  item_events p j i no_items = []
  item_events p j i (item d ds) = part_events p (a_schema (branch j i)) d ++ item_events p j (suc i) ds

-- the events of a whole schema, and of the schema at a place
abbrev pub schema_events : Place → Members → List Event
schema_events p ms = entered p (object ms) ∷ member_events p true ms

-- an event is one of a list
abbrev pub IsIn : Event → List Event → Type 0
IsIn m [] = ⊥
IsIn m (n ∷ events) = (m ≡ n) ⊎ IsIn m events

-- the paths of the events ascend
abbrev pub Ascend : List Event → Type 0
Ascend [] = Unit {0}
Ascend (m ∷ events) = ((n : Event) → IsIn n events → path_cmp (event_path m) (event_path n) ≡ Less) × Ascend events

-- a keyword of a place, whose members or entries are limited, has so many
pub record IsCounted (raw : Data) (at : Place) (keyword : List ℕ) (l : Limited) (n : ℕ) : Type 0 where
  pub schema : Data
  pub is : schema_at raw at ≡ Some schema
  pub value : Data
  pub is_there : under schema keyword ≡ Some value
  pub limit : limited_by keyword ≡ Some l
  pub count : size value ≡ n

-- the events are those of the schema, in path order
pub record AreEventsOf (raw : Data) (events : List Event) : Type 0 where
  pub ascending : Ascend events
  pub subschemas : (p : Place) (s : Data) → (schema_at raw p ≡ Some s) ↔ IsIn (entered p s) events
  pub keywords : (p : Place) (k : List ℕ) (l : Limited) (n : ℕ) → IsCounted raw p k l n ↔ IsIn (counted p k l n) events

-- where a limit is passed, and which one; how many steps, members or entries there are, or how many places come before
pub record Passing : Type 0 where
  pub path : Path
  pub limited : Limited
  pub found : ℕ

-- of places, how many there are in all
abbrev pub of_all_places : Limited → ℕ → ℕ → ℕ
of_all_places Places total n = total
of_all_places _ total n = n

abbrev pub passing : Path → Limited → ℕ → Option Passing
passing path l n = Some (record { path = path; limited = l; found = n })

-- where a limit is passed first, after so many places
abbrev pub limit_break : Limits → ℕ → List Event → Option Passing
limit_break limits n [] = None
limit_break limits n (entered p s ∷ events) =
    if nat_le limits.places n then passing (place_path p) Places n else
    if nat_lt limits.steps (length p) then passing (place_path p) Steps (length p) else limit_break limits (suc n) events
limit_break limits n (counted p k l m ∷ events) =
    if nat_lt (most limits l) m then passing (place_path p ++ (name k ∷ [])) l m else limit_break limits n events

-- the places among the events
abbrev pub subschemas_of : List Event → List Event
subschemas_of [] = []
subschemas_of (entered p s ∷ events) = entered p s ∷ subschemas_of events
subschemas_of (counted p k l n ∷ events) = subschemas_of events

-- the same with all places of the schema counted
abbrev pub of_all : Members → Passing → Passing
of_all ms p = record { path = p.path; limited = p.limited; found = of_all_places p.limited (length (subschemas_of (schema_events [] ms))) p.found }
