-- The pools document that is suggested for a schema: a start that its author changes, or one for the samples around an object (this
-- project's own).
use Rattle.std.specs.Prelude.{◌≤◌, ◌<◌, ℕ, List, [], ◌∷◌, ◌++◌, true, false, Option, Some, None, map, filter, take, length, not, codes}
use Rattle.std.specs.List.{repeat, fold}
use Rattle.jtree.specs.Data.{Data, integer, text, list, object, Items, no_items, item, Members, no_members, member, depth}
use Rattle.jtree.specs.MemberPlace.{with_member}
use Rattle.jtree.specs.Reads.{most_bytes, most_depth}
use Rattle.jtree.specs.Text.{compact}
use Rattle.schema.specs.Document.Texts.{is_among}
use Rattle.schema.specs.Nodes.Node.{Node}
use Rattle.plan.specs.Pools.Document.{pools_of}
use Rattle.plan.specs.Pools.Pools.{standard, AreSmall}
use Rattle.plan.specs.declared.pool_limits.PoolLimits.{PoolLimits}
use Rattle.suggest.specs.Suggested.Chosen.{chosen_names}
use Rattle.suggest.specs.Suggested.Halves.{numbers_for}
use Rattle.suggest.specs.Suggested.LeafValues.{General}
use Rattle.suggest.specs.Suggested.Lists.{Entry}
use Rattle.suggest.specs.Suggested.Values.{all_integers, all_lengths}
use Rattle.suggest.specs.Suggested.Varied.{Suggestions, lists_alone, suggestions_below}
use Rattle.suggest.specs.Suggested.Wanted.{Wanted}
use Rattle.suggest.specs.Suggested.Without.{without_paths}

abbrev pub items_of : List Data → Items
items_of [] = no_items
items_of (d ∷ ds) = item d (items_of ds)

-- a text of this many letters
abbrev pub letters : ℕ → List ℕ
letters n = repeat n (codes "a")

-- the first of each list, as many as pools may have by the standard limits, with the large ones too
abbrev pub suggested_integers : Node → List Data
suggested_integers root = map (λ z. integer z) (take standard.entries (all_integers root))

abbrev pub suggested_numbers : Node → List Data
suggested_numbers root = numbers_for root (take standard.entries (all_integers root))

abbrev pub suggested_strings : Node → List Data
suggested_strings root = map (λ n. text (letters n)) (take standard.entries (all_lengths root))

-- values of open nodes, in the tree order
abbrev pub suggested_any : List Data
suggested_any = text (codes "a") ∷ object no_members ∷ []

abbrev pub usual_names : List (List ℕ)
usual_names = codes "a" ∷ codes "b" ∷ []

abbrev pub general_of : PoolLimits → Node → General
general_of limits root = record { integers = suggested_integers root; numbers = suggested_numbers root; strings = suggested_strings root; any = suggested_any; limits = limits; beside = false }

-- where paths are varied, suggestions come besides what the object has
abbrev pub for_variation : General → General
for_variation G = record G { beside = true }

-- ---- lists under names

abbrev pub with_entry : Members → Entry → Members
with_entry ms e = with_member e.path (list (items_of e.values)) ms

abbrev pub members_from : List Entry → Members
members_from es = fold with_entry no_members es

-- ---- what is suggested at paths

-- the one object, where there is one alone
abbrev pub single : List Data → Option Data
single (v ∷ []) = Some v
single _ = None

-- without a varied path nothing is fixed
abbrev pub suggestions_by : List (List ℕ) → General → Wanted → Data → Node → Suggestions
suggestions_by [] G w raw root = lists_alone G w.objects None (Some raw) [] root
suggestions_by ts G w raw root = suggestions_below (for_variation G) ts (single w.objects) (Some raw) [] root

-- a path that never occurs
abbrev pub without_entry : List ℕ → Entry
without_entry path = record { path = path; values = [] }

-- ---- the document

-- a member that is a list, or an object of lists; none where there is nothing in it
abbrev pub lists_member : List ℕ → Members → Members → Members
lists_member k no_members ms = ms
lists_member k lists ms = member k (object lists) ms

abbrev pub texts_member : List ℕ → List (List ℕ) → Members → Members
texts_member k [] ms = ms
texts_member k ts ms = member k (list (items_of (map (λ t. text t) ts))) ms

abbrev pub values_member : List ℕ → List Data → Members → Members
values_member k [] ms = ms
values_member k ds ms = member k (list (items_of ds)) ms

-- of these parts, in the order of their names
abbrev pub document_with : List Data → Members → List Data → List (List ℕ) → List Data → Members → List (List ℕ) → List Data → Data
document_with any fixed integers names numbers paths present strings = object (
    member (codes "any") (list (items_of any)) (
    lists_member (codes "fixed") fixed (
    member (codes "integers") (list (items_of integers)) (
    member (codes "names") (list (items_of (map (λ t. text t) names))) (
    values_member (codes "numbers") numbers (
    lists_member (codes "paths") paths (
    texts_member (codes "present") present (
    member (codes "strings") (list (items_of strings)) no_members))))))))

abbrev pub document_of : PoolLimits → Node → List (List ℕ) → Suggestions → Data
document_of limits root without suggestions = document_with suggested_any (members_from (suggestions.fixed ++ map without_entry without)) (suggested_integers root)
    (chosen_names limits.names (suggestions.names ++ usual_names)) (suggested_numbers root) (members_from (take limits.paths suggestions.lists)) (filter (λ t. not (is_among t without)) suggestions.present) (suggested_strings root)

-- of the objects without the paths that never occur
abbrev pub suggested_document : PoolLimits → Data → Node → Wanted → Data
suggested_document limits raw root w = document_of limits root w.without (suggestions_by w.varied (general_of limits root) (without_paths root w) raw root)

-- nothing but the schema is asked about
abbrev pub nothing_wanted : Wanted
nothing_wanted = record { objects = []; varied = []; without = [] }

-- ---- whether it can be read again

-- it is as short, with the newline of its line, as shallow and as small as pools that are read
pub record CanBeRead (limits : PoolLimits) (document : Data) : Type 0 where
  pub short : length (compact document) < most_bytes
  pub shallow : depth document ≤ most_depth
  pub small : AreSmall limits (pools_of document)
