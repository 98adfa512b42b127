-- What is found under a text in members that are made from entries, and in the pools of a suggested document.
use Rattle.std.proofs.Common.{◌≡◌, ℕ, List, [], ◌∷◌, ◌++◌, Bool, true, false, Option, Some, None, take, map, filter, filter_map, not, if◌then◌else◌, option_map, option_and_then, refl, sym, ap, ◌∙◌, inl, inr, codes}
use Rattle.std.specs.List.{fold}
use Rattle.std.specs.Str.{bytes_eq}
use Rattle.jtree.specs.Data.{Data, list, object, Items, Members, no_members, member}
use Rattle.jtree.specs.Data as tree
use Rattle.jtree.specs.Path.{member_at, under}
use Rattle.jtree.specs.Internal.MemberLaws.{with_member_at}
use Rattle.jtree.specs.Internal.Lookups.{bool_cases, same_name}
use Rattle.schema.specs.Document.Texts.{is_among}
use Rattle.schema.specs.Nodes.Node.{Node}
use Rattle.plan.specs.declared.pool_limits.PoolLimits.{PoolLimits}
use Rattle.plan.specs.Pools.Pools.{items_list, entries_in, list_at, fixed_at}
use Rattle.plan.specs.Pools.Document.{entries_of, members_of, text_of, pools_of}
use Rattle.suggest.specs.Suggested.Chosen.{chosen_names}
use Rattle.suggest.specs.Suggested.Document.{items_of, suggested_any, suggested_integers, suggested_numbers, suggested_strings, usual_names, with_entry, members_from, without_entry, lists_member, texts_member, values_member, document_of}
use Rattle.suggest.specs.Suggested.Lists.{Entry}
use Rattle.suggest.specs.Suggested.Varied.{Suggestions}

pub other_name : (k l : List ℕ) → (k ≡ l → ⊥) → bytes_eq k l ≡ false
other_name k l other = elim (bool_cases (bytes_eq k l)) [ inl same ↦ absurd (other (same_name k l same)) | inr f ↦ f ]

-- ---- the values of a text in entries

-- the first, or what there is else
abbrev pub later_or : {A : Type 0} → Option A → Option A → Option A
later_or (Some x) o = Some x
later_or None o = o

pub later_none : {A : Type 0} (o : Option A) → later_or o None ≡ o
later_none (Some x) = refl
later_none None = refl

later_assoc : {A : Type 0} (a b c : Option A) → later_or (later_or a b) c ≡ later_or a (later_or b c)
later_assoc (Some x) b c = refl
later_assoc None b c = refl

abbrev pub values_of : List ℕ → Entry → Option (List Data)
values_of text e = if bytes_eq text e.path then Some e.values else None

-- those of the last entry of this path
abbrev pub values_at : List ℕ → List Entry → Option (List Data)
values_at text [] = None
values_at text (e ∷ es) = later_or (values_at text es) (values_of text e)

pub values_append : (text : List ℕ) (ds es : List Entry) → values_at text (ds ++ es) ≡ later_or (values_at text es) (values_at text ds)
values_append text [] es = sym (later_none (values_at text es))
values_append text (d ∷ ds) es = ap (λ o. later_or o (values_of text d)) (values_append text ds es) ∙ later_assoc (values_at text es) (values_at text ds) (values_of text d)

-- ---- members

one_more : (o : Option (List Data)) (b : Bool) (vs : List Data) (m : Option Data)
    → later_or (option_map (λ vs. list (items_of vs)) o) (if b then Some (list (items_of vs)) else m) ≡ later_or (option_map (λ vs. list (items_of vs)) (later_or o (if b then Some vs else None))) m
one_more (Some x) b vs m = refl
one_more None true vs m = refl
one_more None false vs m = refl

found_after : (es : List Entry) (ms : Members) (text : List ℕ) → member_at text (fold with_entry ms es) ≡ later_or (option_map (λ vs. list (items_of vs)) (values_at text es)) (member_at text ms)
found_after [] ms text = refl
found_after (e ∷ es) ms text = found_after es (with_entry ms e) text
    ∙ (ap (λ o. later_or (option_map (λ vs. list (items_of vs)) (values_at text es)) o) (with_member_at e.path (list (items_of e.values)) ms text)
    ∙ one_more (values_at text es) (bytes_eq text e.path) e.values (member_at text ms))

listed_back : (vs : List Data) → items_list (items_of vs) ≡ vs
listed_back [] = refl
listed_back (v ∷ vs) = ap (λ xs. v ∷ xs) (listed_back vs)

values_back : (o : Option (List Data)) → option_and_then entries_in (later_or (option_map (λ vs. list (items_of vs)) o) None) ≡ o
values_back None = refl
values_back (Some vs) = ap Some (listed_back vs)

found_values : (es : List Entry) (text : List ℕ) → option_and_then entries_in (member_at text (members_from es)) ≡ values_at text es
found_values es text = ap (option_and_then entries_in) (found_after es no_members text) ∙ values_back (values_at text es)

-- ---- the pools of a document

abbrev with_parts : Items → Items → Items → List Data → Items → Members → Members → List (List ℕ) → Data
with_parts any integers names qs strings fixed paths present = object (member (codes "any") (list any) (lists_member (codes "fixed") fixed (member (codes "integers") (list integers)
    (member (codes "names") (list names) (values_member (codes "numbers") qs (lists_member (codes "paths") paths (texts_member (codes "present") present (member (codes "strings") (list strings) no_members))))))))

texts_back : (ts : List (List ℕ)) → filter_map text_of (items_list (items_of (map (λ t. tree.text t) ts))) ≡ ts
texts_back [] = refl
texts_back (t ∷ ts) = ap (λ xs. t ∷ xs) (texts_back ts)

fixed_part : (any integers names : Items) (qs : List Data) (strings : Items) (F L : Members) (ps : List (List ℕ)) → members_of (under (with_parts any integers names qs strings F L ps) (codes "fixed")) ≡ F
fixed_part any integers names qs strings (member k d ms) L ps = refl
fixed_part any integers names [] strings no_members no_members [] = refl
fixed_part any integers names [] strings no_members no_members (p ∷ ps) = refl
fixed_part any integers names [] strings no_members (member l e ns) [] = refl
fixed_part any integers names [] strings no_members (member l e ns) (p ∷ ps) = refl
fixed_part any integers names (q ∷ qs) strings no_members no_members [] = refl
fixed_part any integers names (q ∷ qs) strings no_members no_members (p ∷ ps) = refl
fixed_part any integers names (q ∷ qs) strings no_members (member l e ns) [] = refl
fixed_part any integers names (q ∷ qs) strings no_members (member l e ns) (p ∷ ps) = refl

paths_part : (any integers names : Items) (qs : List Data) (strings : Items) (F L : Members) (ps : List (List ℕ)) → members_of (under (with_parts any integers names qs strings F L ps) (codes "paths")) ≡ L
paths_part any integers names [] strings no_members (member l e ns) ps = refl
paths_part any integers names (q ∷ qs) strings no_members (member l e ns) ps = refl
paths_part any integers names [] strings (member k d ms) (member l e ns) ps = refl
paths_part any integers names (q ∷ qs) strings (member k d ms) (member l e ns) ps = refl
paths_part any integers names [] strings no_members no_members [] = refl
paths_part any integers names [] strings no_members no_members (p ∷ ps) = refl
paths_part any integers names (q ∷ qs) strings no_members no_members [] = refl
paths_part any integers names (q ∷ qs) strings no_members no_members (p ∷ ps) = refl
paths_part any integers names [] strings (member k d ms) no_members [] = refl
paths_part any integers names [] strings (member k d ms) no_members (p ∷ ps) = refl
paths_part any integers names (q ∷ qs) strings (member k d ms) no_members [] = refl
paths_part any integers names (q ∷ qs) strings (member k d ms) no_members (p ∷ ps) = refl

names_part : (any integers names : Items) (qs : List Data) (strings : Items) (F L : Members) (ps : List (List ℕ)) → entries_of (under (with_parts any integers names qs strings F L ps) (codes "names")) ≡ items_list names
names_part any integers names qs strings no_members L ps = refl
names_part any integers names qs strings (member k d ms) L ps = refl

present_part : (any integers names : Items) (qs : List Data) (strings : Items) (F L : Members) (ps : List (List ℕ)) → filter_map text_of (entries_of (under (with_parts any integers names qs strings F L ps) (codes "present"))) ≡ ps
present_part any integers names [] strings no_members no_members [] = refl
present_part any integers names [] strings no_members (member l e ns) [] = refl
present_part any integers names (q ∷ qs) strings no_members no_members [] = refl
present_part any integers names (q ∷ qs) strings no_members (member l e ns) [] = refl
present_part any integers names [] strings (member k d ms) no_members [] = refl
present_part any integers names [] strings (member k d ms) (member l e ns) [] = refl
present_part any integers names (q ∷ qs) strings (member k d ms) no_members [] = refl
present_part any integers names (q ∷ qs) strings (member k d ms) (member l e ns) [] = refl
present_part any integers names [] strings no_members no_members (p ∷ ps) = texts_back (p ∷ ps)
present_part any integers names [] strings no_members (member l e ns) (p ∷ ps) = texts_back (p ∷ ps)
present_part any integers names (q ∷ qs) strings no_members no_members (p ∷ ps) = texts_back (p ∷ ps)
present_part any integers names (q ∷ qs) strings no_members (member l e ns) (p ∷ ps) = texts_back (p ∷ ps)
present_part any integers names [] strings (member k d ms) no_members (p ∷ ps) = texts_back (p ∷ ps)
present_part any integers names [] strings (member k d ms) (member l e ns) (p ∷ ps) = texts_back (p ∷ ps)
present_part any integers names (q ∷ qs) strings (member k d ms) no_members (p ∷ ps) = texts_back (p ∷ ps)
present_part any integers names (q ∷ qs) strings (member k d ms) (member l e ns) (p ∷ ps) = texts_back (p ∷ ps)

abbrev chosen : PoolLimits → Suggestions → List (List ℕ)
chosen limits said = chosen_names limits.names (said.names ++ usual_names)

abbrev kept_present : List (List ℕ) → Suggestions → List (List ℕ)
kept_present without said = filter (λ t. not (is_among t without)) said.present

pub pool_fixed : (limits : PoolLimits) (root : Node) (without : List (List ℕ)) (said : Suggestions) (text : List ℕ)
    → fixed_at text (pools_of (document_of limits root without said)) ≡ values_at text (said.fixed ++ map without_entry without)
pool_fixed limits root without said text = ap (λ ms. option_and_then entries_in (member_at text ms))
    (fixed_part (items_of suggested_any) (items_of (suggested_integers root)) (items_of (map (λ t. tree.text t) (chosen limits said))) (suggested_numbers root) (items_of (suggested_strings root))
    (members_from (said.fixed ++ map without_entry without)) (members_from (take limits.paths said.lists)) (kept_present without said))
    ∙ found_values (said.fixed ++ map without_entry without) text

pub pool_lists : (limits : PoolLimits) (root : Node) (without : List (List ℕ)) (said : Suggestions) (text : List ℕ)
    → list_at text (pools_of (document_of limits root without said)) ≡ values_at text (take limits.paths said.lists)
pool_lists limits root without said text = ap (λ ms. option_and_then entries_in (member_at text ms))
    (paths_part (items_of suggested_any) (items_of (suggested_integers root)) (items_of (map (λ t. tree.text t) (chosen limits said))) (suggested_numbers root) (items_of (suggested_strings root))
    (members_from (said.fixed ++ map without_entry without)) (members_from (take limits.paths said.lists)) (kept_present without said))
    ∙ found_values (take limits.paths said.lists) text

pub pool_names : (limits : PoolLimits) (root : Node) (without : List (List ℕ)) (said : Suggestions) → (pools_of (document_of limits root without said)).names ≡ chosen limits said
pool_names limits root without said = ap (filter_map text_of)
    (names_part (items_of suggested_any) (items_of (suggested_integers root)) (items_of (map (λ t. tree.text t) (chosen limits said))) (suggested_numbers root) (items_of (suggested_strings root))
    (members_from (said.fixed ++ map without_entry without)) (members_from (take limits.paths said.lists)) (kept_present without said))
    ∙ texts_back (chosen limits said)

pub pool_present : (limits : PoolLimits) (root : Node) (without : List (List ℕ)) (said : Suggestions) → (pools_of (document_of limits root without said)).present ≡ kept_present without said
pool_present limits root without said =
    present_part (items_of suggested_any) (items_of (suggested_integers root)) (items_of (map (λ t. tree.text t) (chosen limits said))) (suggested_numbers root) (items_of (suggested_strings root))
    (members_from (said.fixed ++ map without_entry without)) (members_from (take limits.paths said.lists)) (kept_present without said)

-- nothing is left out
pub all_present : (ts : List (List ℕ)) → filter (λ t. not (is_among t [])) ts ≡ ts
all_present [] = refl
all_present (t ∷ ts) = ap (λ xs. t ∷ xs) (all_present ts)
