-- The sites of a plan, one for each node of the schema, and the slots of its objects and maps (this project's own).
use Rattle.std.specs.Prelude.{ℕ, List, [], ◌∷◌, ◌++◌, Bool, false, Option, Some, None, map, ◌||◌, is_some, get_or}
use Rattle.jtree.specs.Data.{Data}
use Rattle.schema.specs.Document.Texts.{is_among}
use Rattle.schema.specs.Nodes.Node.{Node, node, Sort, object, list, open_, Fields, no_fields, field}
use Rattle.schema.specs.Nodes.Node as nodes
use Rattle.schema.specs.declared.node.ListType.{ListType}
use Rattle.schema.specs.declared.node.ListType.TheVariants.{Map}
use Rattle.explain.specs.Paths.FieldPath as step
use Rattle.plan.specs.Pools.Pools.{Pools, fixed_at, is_present}
use Rattle.plan.specs.Samples.Names.{in_order}
use Rattle.plan.specs.Samples.Presence.{named, bit_of}
pub use Rattle.plan.specs.Samples.Site.{Site, plain, root_site, below, fixed_item, where_fixed}

-- a site to answer where there is none
abbrev pub no_site : Site
no_site = root_site (node false None open_)

-- the keys of the items of a list
abbrev pub item_keys : ListType → List (List ℕ) → List (List ℕ)
item_keys (Map e) keys = keys
item_keys _ keys = []

-- the site of the items of a list
abbrev pub item_site_at : Pools → List ℕ → Node → Option Site
item_site_at P path (node nullable description (list N type keys bounds)) =
    Some (record { node = N; keys = item_keys type keys; path = below path step.item; fixed = fixed_item P type (below path step.item) })
item_site_at P path _ = None

abbrev pub item_site : Pools → Site → Option Site
item_site P s = where_fixed s.fixed None (item_site_at P s.path s.node)

-- a site and all sites below it, those below a site before it; a site whose values are fixed has none below it
abbrev mutual
  pub sites_from : Pools → Option (List Data) → List ℕ → Node → List (List ℕ) → List Site
  sites_from P fixed path (node nullable description sort) keys =
      where_fixed fixed [] (sites_below P path sort) ++ record { node = node nullable description sort; keys = keys; path = path; fixed = fixed } ∷ []

  pub sites_below : Pools → List ℕ → Sort → List Site
  sites_below P path (object fs preserves type bounds cs) = sites_of_fields P path fs
  sites_below P path (nodes.map N type bounds) = sites_from P (fixed_at (below path step.value) P) (below path step.value) N []
  sites_below P path (list N type keys bounds) = sites_from P (fixed_item P type (below path step.item)) (below path step.item) N (item_keys type keys)
  sites_below P path _ = []

  pub sites_of_fields : Pools → List ℕ → Fields → List Site
  sites_of_fields P path no_fields = []
  sites_of_fields P path (field k N required default fs) = sites_from P (fixed_at (below path (step.field k)) P) (below path (step.field k)) N [] ++ sites_of_fields P path fs

-- all sites of a schema: those below a site before it, the fields of an object by their names, the root last. The order depends on its
-- nodes and the pools alone, so a plan is known by its question.
abbrev pub sites_of : Pools → Node → List Site
sites_of P root = sites_from P None [] root []

-- the site of a number: a node of a plan is a number, and represents this site
abbrev pub site_at : List Site → ℕ → Site
site_at sites i = get_or sites i no_site

-- ---- slots

-- a name under which there may be a member: the site of its value, whether it has to be there, whether the name is a key, and its
-- place among the fields that the junctors name
pub record Slot : Type 0 where
  pub name : List ℕ
  pub site : Site
  pub must : Bool
  pub key : Bool
  pub bit : Option ℕ

-- a slot to answer where there is none
abbrev pub no_slot : Slot
no_slot = record { name = []; site = no_site; must = false; key = false; bit = None }

-- a field that is required or has a default has to be there, and so has one that the pools ask for
abbrev pub field_slots : Pools → List ℕ → List (List ℕ) → List (List ℕ) → Fields → List Slot
field_slots P path keys names no_fields = []
field_slots P path keys names (field k N required default fs) =
    record { name = k; site = plain P (below path (step.field k)) N; must = (required || is_some default) || is_present (below path (step.field k)) P; key = is_among k keys; bit = bit_of k names } ∷ field_slots P path keys names fs

abbrev pub value_slot : Pools → List ℕ → Node → List ℕ → Slot
value_slot P path N k = record { name = k; site = plain P (below path step.value) N; must = false; key = false; bit = None }

-- the declared names of an object; at a map the names of the pools by their bytes, each once, and each slot may stay empty
abbrev pub slots_at : Pools → List ℕ → Node → List (List ℕ) → List Slot
slots_at P path (node nullable description (object fs preserves type bounds cs)) keys = field_slots P path keys (named cs) fs
slots_at P path (node nullable description (nodes.map N type bounds)) keys = map (value_slot P path N) (in_order P.names)
slots_at P path _ keys = []

abbrev pub slots : Pools → Site → List Slot
slots P s = where_fixed s.fixed [] (slots_at P s.path s.node s.keys)
