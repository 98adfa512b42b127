-- The suggested document is one that pools are read from.
use Rattle.std.proofs.Common.{◌≡◌, ◌⊎◌, ℕ, zero, suc, ℤ, List, [], ◌∷◌, ◌++◌, Bool, true, false, Some, map, take, filter_map, refl, sym, ap, ◌∙◌, subst, inl, inr}
use Rattle.std.specs.Option.{option_to_list}
use Rattle.std.specs.Prelude.{codes, filter, not}
use Rattle.std.specs.List.{fold}
use Rattle.std.specs.Str.{bytes_eq}
use Rattle.std.proofs.lemmas.Option.{same_Some, none-some}
use Rattle.jtree.specs.Data.{Data, integer, text, list, object, Items, Members, no_members, member}
use Rattle.jtree.specs.Kind.{is_integer, is_text, is_list, is_object}
use Rattle.jtree.specs.Path.{Path, item_at, member_at}
use Rattle.jtree.specs.Order.{text_cmp}
use Rattle.jtree.specs.Internal.Lookups.{bool_cases, ordering_cases, same_name}
use Rattle.schema.specs.Document.Texts.{is_among}
use Rattle.schema.specs.Nodes.Node.{Node}
use Rattle.schema.specs.declared.profile.Profile.{Profile}
use Rattle.schema.specs.declared.profile.Profile.TheVariants.{Core, Cluster}
use Rattle.plan.specs.Pools.Pools.{items_list, standard}
use Rattle.plan.specs.declared.pool_limits.PoolLimits.{PoolLimits}
use Rattle.plan.specs.Pools.Document.{PoolForm, entries, lists, pool_form, BreaksPool, other_name, no_list, other_entry, no_lists, no_list_at, BreaksForm, no_object, in_member, HasFormBy, is_any_number, integer_of, text_of, pools_of}
use Rattle.suggest.specs.Suggested.Halves.{has_numbers, half_read, half_after, halves}
use Rattle.suggest.specs.Suggested.Values.{all_integers, all_lengths}
use Rattle.jtree.specs.MemberPlace.{with_member}
use Rattle.suggest.specs.Suggested.Document.{items_of, letters, suggested_any, suggested_integers, suggested_numbers, suggested_strings, with_entry, members_from, without_entry, usual_names, lists_member, texts_member, values_member, document_with, document_of}
use Rattle.suggest.specs.Suggested.Chosen.{chosen_names}
use Rattle.suggest.specs.Suggested.Lists.{Entry}
use Rattle.suggest.specs.Suggested.Varied.{Suggestions}

-- ---- what breaks the form

record IsBrokenMember (profile : Profile) (d : Data) : Type 0 where
  pub members : Members
  pub is : d ≡ object members
  pub name : List ℕ
  pub value : Data
  pub there : member_at name members ≡ Some value
  pub path : Path
  pub breaks : BreaksPool (pool_form profile name) value path

break_cases : (profile : Profile) (d : Data) (path : Path) → BreaksForm profile d path → (is_object d ≡ false) ⊎ IsBrokenMember profile d
break_cases profile d path (no_object _ e) = inl e
break_cases profile d path (in_member ms k v rest there b) = inr (record { members = ms; is = refl; name = k; value = v; there = there; path = rest; breaks = b })

record IsOtherEntry (test : Data → Bool) (d : Data) : Type 0 where
  pub items : Items
  pub is : d ≡ list items
  pub place : ℕ
  pub entry : Data
  pub there : item_at place items ≡ Some entry
  pub fails : test entry ≡ false

-- of a list of entries
abbrev IsBrokenList : PoolForm → Data → Type 0
IsBrokenList (entries test) d = (is_list d ≡ false) ⊎ IsOtherEntry test d
IsBrokenList _ d = Unit {0}

list_cases : (f : PoolForm) (d : Data) (path : Path) → BreaksPool f d path → IsBrokenList f d
list_cases f d path (other_name _) = tt
list_cases f d path (no_list test _ e) = inl e
list_cases f d path (other_entry test ds i v there fails) = inr (record { items = ds; is = refl; place = i; entry = v; there = there; fails = fails })
list_cases f d path (no_lists _ e) = tt
list_cases f d path (no_list_at ms k v there e) = tt

-- ---- each entry passes

abbrev AllPass : (Data → Bool) → List Data → Type 0
AllPass test [] = Unit {0}
AllPass test (d ∷ ds) = (test d ≡ true) × AllPass test ds

passes : (test : Data → Bool) (ds : List Data) → AllPass test ds → (i : ℕ) (v : Data) → item_at i (items_of ds) ≡ Some v → test v ≡ true
passes test [] all i v there = absurd (none-some v there)
passes test (d ∷ ds) all zero v there = subst (λ e. test e ≡ true) (same_Some d v there) all.0
passes test (d ∷ ds) all (suc i) v there = passes test ds all.1 i v there

all_of : {X : Type 0} (test : Data → Bool) (f : X → Data) → ((x : X) → test (f x) ≡ true) → (xs : List X) → AllPass test (map f xs)
all_of test f each [] = tt
all_of test f each (x ∷ xs) = (each x, all_of test f each xs)

items_same : (ds es : Items) → list ds ≡ list es → ds ≡ es
items_same ds es e = cc

unbroken : (test : Data → Bool) (ds : List Data) → AllPass test ds → (d : Data) (path : Path) → list (items_of ds) ≡ d → BreaksPool (entries test) d path → ⊥
unbroken test ds all d path same b = elim (list_cases (entries test) d path b) [
  | inl e ↦ let x : is_list (list (items_of ds)) ≡ false = subst (λ e. is_list e ≡ false) (sym same) e in cc
  | inr o ↦
      let there = subst (λ es. item_at o.place es ≡ Some o.entry) (sym (items_same (items_of ds) o.items (same ∙ o.is))) o.there in
      let x = passes test ds all o.place o.entry there in
      let y = o.fails in
      cc
]

-- ---- each member is of its form

-- nothing is broken in the member of this name
abbrev IsUnbroken : Profile → List ℕ → Data → Type 0
IsUnbroken profile k d = (path : Path) → BreaksPool (pool_form profile k) d path → ⊥

abbrev AreUnbroken : Profile → Members → Type 0
AreUnbroken profile no_members = Unit {0}
AreUnbroken profile (member k d ms) = IsUnbroken profile k d × AreUnbroken profile ms

unbroken_at : (profile : Profile) (ms : Members) → AreUnbroken profile ms → (k : List ℕ) (v : Data) → member_at k ms ≡ Some v → IsUnbroken profile k v
unbroken_at profile no_members all k v there = absurd (none-some v there)
unbroken_at profile (member l d ms) all k v there = elim (bool_cases (bytes_eq k l)) [
  | inl t ↦ subst (IsUnbroken profile k) (same_Some d v (rw t at there)) (subst (λ n. IsUnbroken profile n d) (sym (same_name k l t)) all.0)
  | inr f ↦ unbroken_at profile ms all.1 k v (rw f at there)
]

form_of : (profile : Profile) (ms : Members) → AreUnbroken profile ms → HasFormBy profile (object ms)
form_of profile ms all path b = elim (break_cases profile (object ms) path b) [
  | inl e ↦ cc
  | inr m ↦
      let same : ms ≡ m.members = let is = m.is in cc in
      unbroken_at profile ms all m.name m.value (subst (λ ns. member_at m.name ns ≡ Some m.value) (sym same) m.there) m.path m.breaks
]

-- ---- objects of lists

abbrev pub AreLists : Members → Type 0
AreLists no_members = Unit {0}
AreLists (member k d ms) = (is_list d ≡ true) × AreLists ms

with_lists : (k : List ℕ) (ds : List Data) (ms : Members) → AreLists ms → AreLists (with_member k (list (items_of ds)) ms)
with_lists k ds no_members all = (refl, tt)
with_lists k ds (member l e ms) all = elim (ordering_cases (text_cmp k l)) [
  | inl h ↦ rw h (refl, all)
  | inr (inl h) ↦ rw h (refl, all.1)
  | inr (inr h) ↦ rw h (all.0, with_lists k ds ms all.1)
]

lists_from : (es : List Entry) (ms : Members) → AreLists ms → AreLists (fold with_entry ms es)
lists_from [] ms all = all
lists_from (e ∷ es) ms all = lists_from es (with_entry ms e) (with_lists e.path e.values ms all)

pub members_are_lists : (es : List Entry) → AreLists (members_from es)
members_are_lists es = lists_from es no_members tt

list_there : (ms : Members) → AreLists ms → (k : List ℕ) (v : Data) → member_at k ms ≡ Some v → is_list v ≡ true
list_there no_members all k v there = absurd (none-some v there)
list_there (member l d ms) all k v there = elim (bool_cases (bytes_eq k l)) [
  | inl t ↦ subst (λ e. is_list e ≡ true) (same_Some d v (rw t at there)) all.0
  | inr f ↦ list_there ms all.1 k v (rw f at there)
]

record IsNoList (d : Data) : Type 0 where
  pub members : Members
  pub is : d ≡ object members
  pub name : List ℕ
  pub value : Data
  pub there : member_at name members ≡ Some value
  pub other : is_list value ≡ false

abbrev IsBrokenLists : PoolForm → Data → Type 0
IsBrokenLists lists d = (is_object d ≡ false) ⊎ IsNoList d
IsBrokenLists _ d = Unit {0}

lists_cases : (f : PoolForm) (d : Data) (path : Path) → BreaksPool f d path → IsBrokenLists f d
lists_cases f d path (other_name _) = tt
lists_cases f d path (no_list test _ e) = tt
lists_cases f d path (other_entry test ds i v there fails) = tt
lists_cases f d path (no_lists _ e) = inl e
lists_cases f d path (no_list_at ms k v there e) = inr (record { members = ms; is = refl; name = k; value = v; there = there; other = e })

unbroken_lists : (ms : Members) → AreLists ms → (path : Path) → BreaksPool lists (object ms) path → ⊥
unbroken_lists ms all path b = elim (lists_cases lists (object ms) path b) [
  | inl e ↦ cc
  | inr n ↦
      let same : n.members ≡ ms = let is = n.is in cc in
      let t = list_there ms all n.name n.value (subst (λ ns. member_at n.name ns ≡ Some n.value) same n.there) in
      let o = n.other in
      cc
]

-- ---- the document

unbroken_entries : (test : Data → Bool) (ds : List Data) → AllPass test ds → (path : Path) → BreaksPool (entries test) (list (items_of ds)) path → ⊥
unbroken_entries test ds all path b = unbroken test ds all (list (items_of ds)) path refl b

lists_member_form : (profile : Profile) (k : List ℕ) (fs ms : Members) → pool_form profile k ≡ lists → AreLists fs → AreUnbroken profile ms → AreUnbroken profile (lists_member k fs ms)
lists_member_form profile k no_members ms is all rest = rest
lists_member_form profile k (member l d fs) ms is all rest = (λ path b. unbroken_lists (member l d fs) all path (subst (λ f. BreaksPool f (object (member l d fs)) path) is b), rest)

texts_pass : (ts : List (List ℕ)) → AllPass is_text (map (λ t. text t) ts)
texts_pass ts = all_of is_text (λ t. text t) (λ t. refl) ts

texts_member_form : (profile : Profile) (k : List ℕ) (ts : List (List ℕ)) (ms : Members) → pool_form profile k ≡ entries is_text → AreUnbroken profile ms → AreUnbroken profile (texts_member k ts ms)
texts_member_form profile k [] ms is rest = rest
texts_member_form profile k (t ∷ ts) ms is rest =
    (λ path b. unbroken_entries is_text (map (λ s. text s) (t ∷ ts)) (texts_pass (t ∷ ts)) path (subst (λ f. BreaksPool f (list (items_of (map (λ s. text s) (t ∷ ts)))) path) is b), rest)

all_pass : (ds : List Data) → AllPass (λ d. true) ds
all_pass [] = tt
all_pass (d ∷ ds) = (refl, all_pass ds)

-- numbers that there may be
abbrev pub AreNumbersBy : Profile → List Data → Type 0
AreNumbersBy Core ds = ds ≡ []
AreNumbersBy Cluster ds = AllPass is_any_number ds

numbers_form_of : (profile : Profile) (ds : List Data) (ms : Members) → AreNumbersBy profile ds → AreUnbroken profile ms → AreUnbroken profile (values_member (codes "numbers") ds ms)
numbers_form_of Core [] ms are rest = rest
numbers_form_of Core (d ∷ ds) ms are rest = absurd (cc)
numbers_form_of Cluster [] ms are rest = rest
numbers_form_of Cluster (d ∷ ds) ms are rest = ((λ path b. unbroken_entries is_any_number (d ∷ ds) are path b), rest)

form_with : (profile : Profile) (any : List Data) (fixed : Members) (integers : List Data) (names : List (List ℕ)) (numbers : List Data) (paths : Members) (present : List (List ℕ)) (strings : List Data)
    → AllPass is_integer integers → AreNumbersBy profile numbers → AllPass is_text strings → AreLists fixed → AreLists paths → HasFormBy profile (document_with any fixed integers names numbers paths present strings)
form_with profile any fixed integers names numbers paths present strings pi pn ps lf lp = form_of profile _ (
  (λ path b. unbroken_entries (λ d. true) any (all_pass any) path b),
  lists_member_form profile (codes "fixed") fixed _ refl lf (
    (λ path b. unbroken_entries is_integer integers pi path b),
    (
      (λ path b. unbroken_entries is_text (map (λ t. text t) names) (texts_pass names) path b),
      numbers_form_of profile numbers _ pn (
          lists_member_form profile (codes "paths") paths _ refl lp (
          texts_member_form profile (codes "present") present _ refl ((λ path b. unbroken_entries is_text strings ps path b), tt))),
    ),
  ),
)

pub suggested_form : (profile : Profile) (limits : PoolLimits) (root : Node) (without : List (List ℕ)) (said : Suggestions) → AreNumbersBy profile (suggested_numbers root) → HasFormBy profile (document_of limits root without said)
suggested_form profile limits root without said numbers = form_with profile suggested_any _ (suggested_integers root) _ (suggested_numbers root) _ _ (suggested_strings root)
    (all_of is_integer (λ z. integer z) (λ z. refl) (take standard.entries (all_integers root))) numbers (all_of is_text (λ n. text (letters n)) (λ n. refl) (take standard.entries (all_lengths root)))
    (members_are_lists (said.fixed ++ map without_entry without)) (members_are_lists (take limits.paths said.lists))

-- ---- the numbers

filtered_pass : (test : Data → Bool) (ds : List Data) → AllPass test (filter test ds)
filtered_pass test [] = tt
filtered_pass test (d ∷ ds) = elim (bool_cases (test d)) [
  | inl t ↦ rw t (t, filtered_pass test ds)
  | inr f ↦ rw f (filtered_pass test ds)
]

both_pass : (test : Data → Bool) (ds es : List Data) → AllPass test ds → AllPass test es → AllPass test (ds ++ es)
both_pass test [] es p q = q
both_pass test (d ∷ ds) es p q = (p.0, both_pass test ds es p.1 q)

halves_pass : (zs : List ℤ) → AllPass is_any_number (halves zs)
halves_pass [] = tt
halves_pass (z ∷ zs) = both_pass is_any_number (half_after z) (halves zs) (filtered_pass is_any_number (option_to_list (half_read z))) (halves_pass zs)

pub cluster_numbers : (root : Node) → AreNumbersBy Cluster (suggested_numbers root)
cluster_numbers root = elim (bool_cases (has_numbers root)) as (λ _. AllPass is_any_number (suggested_numbers root)) [
  | inl t ↦ rw t (halves_pass (take standard.entries (all_integers root)))
  | inr f ↦ rw f tt
]

pub core_numbers : (root : Node) → has_numbers root ≡ false → AreNumbersBy Core (suggested_numbers root)
core_numbers root none = rw none refl

-- ---- its pools

texts_back : {X : Type 0} (f : X → List ℕ) (xs : List X) → filter_map text_of (items_list (items_of (map (λ x. text (f x)) xs))) ≡ map f xs
texts_back f [] = refl
texts_back f (x ∷ xs) = ap (λ ys. f x ∷ ys) (texts_back f xs)

texts_same : (ts : List (List ℕ)) → filter_map text_of (items_list (items_of (map (λ t. text t) ts))) ≡ ts
texts_same [] = refl
texts_same (t ∷ ts) = ap (λ ys. t ∷ ys) (texts_same ts)

integers_back : (zs : List ℤ) → filter_map integer_of (items_list (items_of (map (λ z. integer z) zs))) ≡ zs
integers_back [] = refl
integers_back (z ∷ zs) = ap (λ xs. z ∷ xs) (integers_back zs)

pub listed_back : (ds : List Data) → items_list (items_of ds) ≡ ds
listed_back [] = refl
listed_back (d ∷ ds) = ap (λ es. d ∷ es) (listed_back ds)

record HasPools (d : Data) (fixed : Members) (integers : List Data) (paths : Members) (present : List (List ℕ)) (strings : List Data) : Type 0 where
  pub fixed_is : (pools_of d).fixed ≡ fixed
  pub integers_are : (pools_of d).integers ≡ filter_map integer_of (items_list (items_of integers))
  pub paths_are : (pools_of d).paths ≡ paths
  pub present_is : (pools_of d).present ≡ present
  pub strings_are : (pools_of d).strings ≡ filter_map text_of (items_list (items_of strings))

pools_with : (any : List Data) (fixed : Members) (integers : List Data) (names : List (List ℕ)) (numbers : List Data) (paths : Members) (present : List (List ℕ)) (strings : List Data)
    → HasPools (document_with any fixed integers names numbers paths present strings) fixed integers paths present strings
pools_with any no_members integers names [] no_members [] strings = record { fixed_is = refl; integers_are = refl; paths_are = refl; present_is = refl; strings_are = refl }
pools_with any no_members integers names [] no_members (t ∷ ts) strings = record { fixed_is = refl; integers_are = refl; paths_are = refl; present_is = texts_same (t ∷ ts); strings_are = refl }
pools_with any no_members integers names [] (member k d ms) [] strings = record { fixed_is = refl; integers_are = refl; paths_are = refl; present_is = refl; strings_are = refl }
pools_with any no_members integers names [] (member k d ms) (t ∷ ts) strings = record { fixed_is = refl; integers_are = refl; paths_are = refl; present_is = texts_same (t ∷ ts); strings_are = refl }
pools_with any no_members integers names (v ∷ vs) no_members [] strings = record { fixed_is = refl; integers_are = refl; paths_are = refl; present_is = refl; strings_are = refl }
pools_with any no_members integers names (v ∷ vs) no_members (t ∷ ts) strings = record { fixed_is = refl; integers_are = refl; paths_are = refl; present_is = texts_same (t ∷ ts); strings_are = refl }
pools_with any no_members integers names (v ∷ vs) (member k d ms) [] strings = record { fixed_is = refl; integers_are = refl; paths_are = refl; present_is = refl; strings_are = refl }
pools_with any no_members integers names (v ∷ vs) (member k d ms) (t ∷ ts) strings = record { fixed_is = refl; integers_are = refl; paths_are = refl; present_is = texts_same (t ∷ ts); strings_are = refl }
pools_with any (member l e ns) integers names [] no_members [] strings = record { fixed_is = refl; integers_are = refl; paths_are = refl; present_is = refl; strings_are = refl }
pools_with any (member l e ns) integers names [] no_members (t ∷ ts) strings = record { fixed_is = refl; integers_are = refl; paths_are = refl; present_is = texts_same (t ∷ ts); strings_are = refl }
pools_with any (member l e ns) integers names [] (member k d ms) [] strings = record { fixed_is = refl; integers_are = refl; paths_are = refl; present_is = refl; strings_are = refl }
pools_with any (member l e ns) integers names [] (member k d ms) (t ∷ ts) strings = record { fixed_is = refl; integers_are = refl; paths_are = refl; present_is = texts_same (t ∷ ts); strings_are = refl }
pools_with any (member l e ns) integers names (v ∷ vs) no_members [] strings = record { fixed_is = refl; integers_are = refl; paths_are = refl; present_is = refl; strings_are = refl }
pools_with any (member l e ns) integers names (v ∷ vs) no_members (t ∷ ts) strings = record { fixed_is = refl; integers_are = refl; paths_are = refl; present_is = texts_same (t ∷ ts); strings_are = refl }
pools_with any (member l e ns) integers names (v ∷ vs) (member k d ms) [] strings = record { fixed_is = refl; integers_are = refl; paths_are = refl; present_is = refl; strings_are = refl }
pools_with any (member l e ns) integers names (v ∷ vs) (member k d ms) (t ∷ ts) strings = record { fixed_is = refl; integers_are = refl; paths_are = refl; present_is = texts_same (t ∷ ts); strings_are = refl }

module _ (limits : PoolLimits) (root : Node) (without : List (List ℕ)) (said : Suggestions) where
  parts : HasPools (document_of limits root without said) (members_from (said.fixed ++ map without_entry without)) (suggested_integers root) (members_from (take limits.paths said.lists)) (filter (λ t. not (is_among t without)) said.present) (suggested_strings root)
  parts = pools_with suggested_any (members_from (said.fixed ++ map without_entry without)) (suggested_integers root) (chosen_names limits.names (said.names ++ usual_names)) (suggested_numbers root) (members_from (take limits.paths said.lists)) (filter (λ t. not (is_among t without)) said.present) (suggested_strings root)

  pub pool_fixed : (pools_of (document_of limits root without said)).fixed ≡ members_from (said.fixed ++ map without_entry without)
  pool_fixed = parts.fixed_is

  pub pool_paths : (pools_of (document_of limits root without said)).paths ≡ members_from (take limits.paths said.lists)
  pool_paths = parts.paths_are

  pub pool_present : (pools_of (document_of limits root without said)).present ≡ filter (λ t. not (is_among t without)) said.present
  pool_present = parts.present_is

  pub pool_integers : (pools_of (document_of limits root without said)).integers ≡ take standard.entries (all_integers root)
  pool_integers = parts.integers_are ∙ integers_back (take standard.entries (all_integers root))

  pub pool_strings : (pools_of (document_of limits root without said)).strings ≡ map letters (take standard.entries (all_lengths root))
  pool_strings = parts.strings_are ∙ texts_back letters (take standard.entries (all_lengths root))
