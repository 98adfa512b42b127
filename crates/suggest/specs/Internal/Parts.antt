-- What values of the code that are private represent.
use Rattle.std.specs.Prelude.{ℕ, List, [], ◌++◌, Bool, Option, Some, None, map, filter, take, not}
use Rattle.jtree.specs.Data.{Data, text, list, object, Members, no_members}
use Rattle.schema.specs.Document.Texts.{is_among}
use Rattle.schema.specs.Nodes.Node.{Node, Fields}
use Rattle.plan.specs.declared.pool_limits.PoolLimits.{PoolLimits}
use Rattle.suggest.specs.View.{trees_of, texts_at, tree_at}
use Rattle.suggest.specs.Suggested.Chosen.{chosen_names}
use Rattle.jtree.specs.MemberPlace.{with_member}
use Rattle.suggest.specs.Suggested.Document.{items_of, members_from, without_entry, usual_names, document_with, single}
use Rattle.suggest.specs.Suggested.Document as document
use Rattle.suggest.specs.Suggested.LeafValues.{General}
use Rattle.suggest.specs.Suggested.Lists.{Entry, lists_of_fields, names_of_fields}
use Rattle.suggest.specs.Suggested.Varied.{Suggestions, lists_alone, suggestions_at, suggestions_below, suggestions_of_fields}
use Rattle.suggest.specs.Suggested.Wanted.{Wanted}
use Rattle.suggest.specs.Suggested.Without.{Place}
use Rattle.suggest.specs.declared.lists.Site.{Site}
use Rattle.suggest.specs.declared.varying.Variation.{Variation}
use Rattle.suggest.specs.declared.suggestions.Entry.{Entry as CodeEntry}
use Rattle.suggest.specs.declared.suggestions.Suggestions.{Suggestions as CodeSuggestions}
use Rattle.suggest.specs.declared.general.General.{General as CodeGeneral}

abbrev pub entry_of : CodeEntry → Entry
entry_of e = record { path = e.path; values = trees_of e.values.items }

abbrev pub entries_of : List CodeEntry → List Entry
entries_of es = map entry_of es

abbrev pub suggestions_of : CodeSuggestions → Suggestions
suggestions_of s = record { lists = entries_of s.lists.items; names = s.names.items; fixed = entries_of s.fixed.items; present = s.present.items }

abbrev pub general_of : CodeGeneral → General
general_of g = record { integers = trees_of g.integers.items; numbers = trees_of g.numbers.items; strings = trees_of g.strings.items; any = trees_of g.any.items; limits = g.limits; beside = g.beside }

-- the lists and the names at the node of a site and below it, where objects have these values there
abbrev pub lists_there : CodeGeneral → Site → Node → List Data → Suggestions
lists_there g s N vs = lists_alone (general_of g) vs (tree_at s.hints.default) (tree_at s.hints.schema) s.path.now N

-- those at fields of the node
abbrev pub lists_of_fields_there : CodeGeneral → Site → Fields → List Data → Suggestions
lists_of_fields_there g s fs vs =
    record { lists = lists_of_fields (general_of g) vs (tree_at s.hints.schema) s.path.now fs; names = names_of_fields vs fs; fixed = []; present = [] }

-- what is suggested at the node of a site and below it with some paths varied, where the object has this value there
abbrev pub varied_at : Variation → Site → Node → Option Data → Suggestions
varied_at v s N d = suggestions_at (general_of v.general.now) (texts_at v.varied.now) d (tree_at s.hints.default) (tree_at s.hints.schema) s.path.now N

-- below it alone
abbrev pub varied_below : Variation → Site → Node → Option Data → Suggestions
varied_below v s N d = suggestions_below (general_of v.general.now) (texts_at v.varied.now) d (tree_at s.hints.schema) s.path.now N

-- at fields of the node and below them
abbrev pub varied_fields : Variation → Site → Fields → Option Data → Suggestions
varied_fields v s fs d = suggestions_of_fields (general_of v.general.now) (texts_at v.varied.now) d (tree_at s.hints.schema) s.path.now fs

-- the pools for a schema, around an object or not
abbrev pub general_with : Bool → PoolLimits → Node → General
general_with beside limits root = record (document.general_of limits root) { beside = beside }

-- what is suggested with these pools
abbrev pub suggestions_from : List (List ℕ) → General → Wanted → Data → Node → Suggestions
suggestions_from [] G w raw root = lists_alone G w.objects None (Some raw) [] root
suggestions_from ts G w raw root = suggestions_below G ts (single w.objects) (Some raw) [] root

-- the document that says it, with these pools
abbrev pub document_from : General → List (List ℕ) → Suggestions → Data
document_from G without suggestions = document_with G.any (members_from (suggestions.fixed ++ map without_entry without)) G.integers (chosen_names G.limits.names (suggestions.names ++ usual_names)) G.numbers
    (members_from (take G.limits.paths suggestions.lists)) (filter (λ t. not (is_among t without)) suggestions.present) G.strings

-- a member that is an object of lists, or a list of texts or values, put where it belongs; none where there is nothing in it
abbrev pub with_lists_member : List ℕ → Members → Members → Members
with_lists_member k no_members ms = ms
with_lists_member k lists ms = with_member k (object lists) ms

abbrev pub with_texts_member : List ℕ → List (List ℕ) → Members → Members
with_texts_member k [] ms = ms
with_texts_member k ts ms = with_member k (list (items_of (map (λ t. text t) ts))) ms

abbrev pub with_values_member : List ℕ → List Data → Members → Members
with_values_member k [] ms = ms
with_values_member k ds ms = with_member k (list (items_of ds)) ms

-- a place at which values are left
abbrev pub place_at : List ℕ → Node → Place
place_at path N = record { path = path; node = N }
