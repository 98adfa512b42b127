-- The values that are listed for a scalar or an open node: those that stand there in objects; else its default, its example, bounds of a
-- number that are no integers, and texts of its format, each where it is stored there (OpenAPI 3.0, `default`, `example`, `minimum`,
-- `maximum` and `format`; this project's own choice). Around an object these come besides what stands there.
use Rattle.std.specs.Prelude.{ℕ, List, [], ◌++◌, Bool, true, false, Option, Some, None, ◌&&◌, not, is_some, if◌then◌else◌, filter, map, take, option_and_then, unwrap_or, codes}
use Rattle.std.specs.Option.{option_to_list}
use Rattle.jtree.specs.Data.{Data, number, text}
use Rattle.jtree.specs.Path.{under}
use Rattle.schema.specs.Rules.Keywords.{text_under}
use Rattle.schema.specs.Nodes.Node.{Node, node, scalar, open_}
use Rattle.schema.specs.declared.node.ScalarKind.TheVariants.{Boolean, Number, String}
use Rattle.stored.specs.Objects.Fault.{is_null, constraints_of}
use Rattle.stored.specs.Objects.Tests.{accepts_scalar, holds}
use Rattle.plan.specs.declared.pool_limits.PoolLimits.{PoolLimits}
use Rattle.suggest.specs.Suggested.Chosen.{chosen_values}
use Rattle.suggest.specs.Suggested.Formats.{texts_of_format}

-- the pools of values that are suggested for all scalars and open nodes, and the limits of pools; `beside` is true around an object, where
-- suggestions come besides what stands there
pub record General : Type 0 where
  pub integers : List Data
  pub numbers : List Data
  pub strings : List Data
  pub any : List Data
  pub limits : PoolLimits
  pub beside : Bool

-- a value other than null is stored at the scalar or open node
abbrev pub takes : Node → Data → Bool
takes (node nullable description (scalar kind cs)) v = accepts_scalar kind v && holds cs v
takes (node nullable description open_) v = not (is_null v)
takes _ v = false

-- no value has to be listed: of a boolean both values are candidates, and of an `enum` all its values
abbrev pub lists_itself : Node → Bool
lists_itself (node nullable description (scalar Boolean cs)) = true
lists_itself (node nullable description (scalar kind cs)) = is_some (constraints_of cs).choices
lists_itself _ = false

abbrev pub takes_texts_alone : Node → Bool
takes_texts_alone (node nullable description (scalar String cs)) = true
takes_texts_alone _ = false

abbrev pub takes_numbers : Node → Bool
takes_numbers (node nullable description (scalar Number cs)) = true
takes_numbers _ = false

-- a number that is no integer of 64 bits
abbrev pub other_number : Option Data → Option Data
other_number (Some (number s)) = Some (number s)
other_number _ = None

-- the bounds of numbers that are such; integers are among the pools
abbrev pub other_bounds : Node → Option Data → List Data
other_bounds N schema =
    if takes_numbers N then option_to_list (other_number (option_and_then (λ s. under s (codes "minimum")) schema)) ++ option_to_list (other_number (option_and_then (λ s. under s (codes "maximum")) schema)) else []

-- its default, its example and such bounds
abbrev pub own_values : Node → Option Data → Option Data → List Data
own_values N default schema = filter (takes N) (option_to_list default ++ (option_to_list (option_and_then (λ s. under s (codes "example")) schema) ++ other_bounds N schema))

-- texts of its format
abbrev pub format_values : Node → Option Data → List Data
format_values N schema =
    if takes_texts_alone N then filter (takes N) (map (λ t. text t) (texts_of_format (unwrap_or (option_and_then (λ s. text_under s (codes "format")) schema) []))) else []

-- the values besides the integers: the numbers for a scalar of numbers, else the strings
abbrev pub others_of : General → Node → List Data
others_of G (node nullable description (scalar Number cs)) = G.numbers
others_of G _ = G.strings

-- some of the pools
abbrev pub few : ℕ
few = 30

abbrev pub general_values : General → Node → List Data
general_values G (node nullable description open_) = take few (filter (takes (node nullable description open_)) G.any)
general_values G N = take few (filter (takes N) G.integers) ++ take few (filter (takes N) (others_of G N))

-- where it has none of its own, and no text of its format is stored there, the pools serve
abbrev pub hinted_from : List Data → List Data → List Data → List Data
hinted_from [] [] general = []
hinted_from own [] general = own ++ general
hinted_from own texts general = own ++ texts

abbrev pub hinted_values : General → Node → Option Data → Option Data → List Data
hinted_values G N default schema = if lists_itself N then [] else hinted_from (own_values N default schema) (format_values N schema) (general_values G N)

-- where nothing is hinted, the pools serve
abbrev pub or_general : List Data → List Data → List Data
or_general [] general = general
or_general hinted general = hinted

-- around an object what stands there comes first; an empty list is none
abbrev pub besides : General → Node → List Data → List Data → List Data
besides G N standing hinted = if lists_itself N then [] else standing ++ or_general hinted (general_values G N)

-- elsewhere it comes in place of what is hinted
abbrev pub joined : General → Node → List Data → List Data → List Data
joined G N [] hinted = hinted
joined G N standing hinted = if G.beside then besides G N standing hinted else standing

abbrev pub leaf_values : General → List Data → Option Data → Option Data → Node → List Data
leaf_values G vs default schema N = chosen_values G.limits.entries (joined G N (filter (takes N) vs) (hinted_values G N default schema))
