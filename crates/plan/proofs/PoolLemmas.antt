-- The lists of pools: as the code has them, how many entries they have, and the first pool that has too many.
use Rattle.std.proofs.Common.{◌≡◌, ◌≢◌, ◌⊎◌, ◌≤◌, ◌<◌, ℕ, List, [], ◌∷◌, Bool, true, false, Option, Some, None, map, filter, filter_map, length, refl, ap, sym, ◌∙◌, subst, inl, inr, arith}
use Rattle.std.specs.Prelude.{nat_lt, option_and_then, unwrap_or, is_some, codes, MatchOption}
use Rattle.std.specs.Option.{option_or}
use Rattle.std.specs.Borrow.{Bor}
use Rattle.std.specs.Str.{bytes_eq}
use Rattle.std.specs.declared.cmp.Ordering.TheVariants.{Less}
use Rattle.std.proofs.lemmas.Bool.{ltb-true, ltb-false}
use Rattle.std.proofs.lemmas.Option.{same_Some}
use Rattle.jtree.specs.Data as tree
use Rattle.jtree.specs.Data.{Data, Members, no_members, member, AreMembers}
use Rattle.jtree.specs.Kind.{is_integer, is_text}
use Rattle.jtree.specs.Order.{text_cmp}
use Rattle.jtree.specs.Path.{name, member_at}
use Rattle.jtree.specs.PathOrder.{path_cmp}
use Rattle.jtree.specs.View.{data_of, items_of, members_of}
use Rattle.jtree.specs.declared.value.Tree.{Tree}
use Rattle.jtree.specs.declared.value.Member.{Member}
use Rattle.jtree.specs.Internal.Lookups.{bool_cases, option_cases, same_name, member_first, member_tail, before_each}
use Rattle.jtree.specs.Internal.PathLaws.{same_step, not_before_name}
use Rattle.stored.specs.Objects.Fault.{members_count}
use Rattle.plan.specs.Pools.Pools.{Pools, items_list, entries_in, AreSmall}
use Rattle.plan.specs.Pools.Document.{integer_of, text_of}
use Rattle.plan.specs.Pools.Oversized.{place_of, size_of, most_of, IsOversized}
use Rattle.plan.specs.Internal.PathLists.{list_count, long_list, IsLongList}
use Rattle.plan.specs.declared.pool_limits.PoolLimits.{PoolLimits}
use Rattle.plan.specs.declared.pool_sizes.PoolName.{PoolName}
use Rattle.plan.specs.declared.pool_sizes.PoolName.TheVariants.{Any, Fixed, FixedAt, Integers, Names, Numbers, Paths, At, Present, Strings}
use Rattle.plan.specs.declared.pool_sizes.Oversized.{Oversized}

pub trees_listed : (ts : List Tree) → map data_of ts ≡ items_list (items_of ts)
trees_listed [] = refl
trees_listed (t ∷ ts) = ap (λ ds. data_of t ∷ ds) (trees_listed ts)

pub listed_length : (ts : List Tree) → length (items_list (items_of ts)) ≡ length ts
listed_length [] = refl
listed_length (t ∷ ts) = let rest = listed_length ts in omega (arith, rest)

members_length : (ms : List Member) → members_count (members_of ms) ≡ length ms
members_length [] = refl
members_length (m ∷ ms) = let rest = members_length ms in omega (arith, rest)

pub lists_count : (ms : List Member) (lists : Members) → members_of ms ≡ lists → length ms ≡ members_count lists
lists_count ms lists same = sym (members_length ms) ∙ ap members_count same

pub where_none : {X : Type 0} (o : Option X) (A : Type 0) (B : X → Type 0) → MatchOption o A B → is_some o ≡ false → A
where_none None A B h e = h
where_none (Some x) A B h e = absurd (cc)

-- the entries of a kind are those that are read
count_read : {X : Type 0} (test : Data → Bool) (f : Data → Option X) → ((d : Data) → test d ≡ is_some (f d)) → (ds : List Data) → length (filter test ds) ≡ length (filter_map f ds)
count_read test f same [] = refl
count_read test f same (d ∷ ds) =
    let rest = count_read test f same ds in
    elim (option_cases (f d)) as (λ _. length (filter test (d ∷ ds)) ≡ length (filter_map f (d ∷ ds))) [
      | inl none ↦ let fails : test d ≡ false = rw none at (same d) in rw (none, fails) rest
      | inr x ↦ let passes : test d ≡ true = rw x.1 at (same d) in rw (x.1, passes) (omega (arith, rest))
    ]

integer_read : (d : Data) → is_integer d ≡ is_some (integer_of d)
integer_read (tree.integer z) = refl
integer_read d = refl

text_read : (d : Data) → is_text d ≡ is_some (text_of d)
text_read (tree.text s) = refl
text_read d = refl

pub integers_count : (ds : List Data) → length (filter is_integer ds) ≡ length (filter_map integer_of ds)
integers_count = count_read is_integer integer_of integer_read

pub texts_count : (ds : List Data) → length (filter is_text ds) ≡ length (filter_map text_of ds)
texts_count = count_read is_text text_of text_read

pub all_count : (ds : List Data) → length (filter (λ (d : Data). true) ds) ≡ length ds
all_count [] = refl
all_count (d ∷ ds) = let rest = all_count ds in omega (arith, rest)

-- ---- the lists of paths

abbrev count_at : List ℕ → Members → ℕ
count_at text ms = length (unwrap_or (option_and_then entries_in (member_at text ms)) [])

no_long_list : (most : ℕ) (ms : Members) → long_list most ms ≡ None → (text : List ℕ) → count_at text ms ≤ most
no_long_list most no_members e text = omega arith
no_long_list most (member k d ms) e text = elim (bool_cases (nat_lt most (list_count d))) [
  | inl long ↦ let found = rw long at e in cc
  | inr short ↦
      elim (bool_cases (bytes_eq text k)) as (λ _. count_at text (member k d ms) ≤ most) [
        | inl t ↦ rw t (ltb-false most (list_count d) short)
        | inr f ↦ rw f (no_long_list most ms (rw short at e) text)
      ]
]

-- the first long list by the text of its path
record IsFirstLong (most : ℕ) (ms : Members) (k : List ℕ) (n : ℕ) : Type 0 where
  pub count : n ≡ count_at k ms
  pub over : most < n
  pub first : (text : List ℕ) → most < count_at text ms → (text ≡ k) ⊎ (text_cmp k text ≡ Less)

named : (text : List ℕ) (ms : Members) (most : ℕ) → most < count_at text ms → (d : Data) × (member_at text ms ≡ Some d)
named text ms most over = elim (option_cases (member_at text ms)) [
  | inl none ↦ let no = rw none at over in absurd (omega arith)
  | inr d ↦ d
]

first_here : (most : ℕ) (l : List ℕ) (d : Data) (ms : Members) → AreMembers (member l d ms) → nat_lt most (list_count d) ≡ true → IsFirstLong most (member l d ms) l (list_count d)
first_here most l d ms o long = record {
  count = ap (λ x. length (unwrap_or (option_and_then entries_in x) [])) (sym (member_first l d ms));
  over = ltb-true most (list_count d) long;
  first = λ text over. elim (bool_cases (bytes_eq text l)) [
    | inl t ↦ inl (same_name text l t)
    | inr f ↦ let later = named text ms most (rw f at over) in inr (before_each l ms text later.0 o.1 o.2 later.1)
  ];
}

first_later : (most : ℕ) (l : List ℕ) (d : Data) (ms : Members) (k : List ℕ) (n : ℕ) → AreMembers (member l d ms) → nat_lt most (list_count d) ≡ false → IsFirstLong most ms k n → IsFirstLong most (member l d ms) k n
first_later most l d ms k n o short r =
    let there = named k ms most (rw r.count at r.over) in
    let below = before_each l ms k there.0 o.1 o.2 there.1 in
    record {
      count = r.count ∙ ap (λ x. length (unwrap_or (option_and_then entries_in x) [])) (there.1 ∙ sym (member_tail l d ms k there.0 o there.1));
      over = r.over;
      first = λ text over. elim (bool_cases (bytes_eq text l)) [
        | inl t ↦ let here = rw t at over in let few = ltb-false most (list_count d) short in absurd (omega arith)
        | inr f ↦ r.first text (rw f at over)
      ];
    }

first_long : (most : ℕ) (ms : Members) (k : List ℕ) (n : ℕ) → AreMembers ms → long_list most ms ≡ Some (k, n) → IsFirstLong most ms k n
first_long most no_members k n o e = cc
first_long most (member l d ms) k n o e = elim (bool_cases (nat_lt most (list_count d))) [
  | inl long ↦
      let same = same_Some (l, list_count d) (k, n) (rw long at e) in
      subst (λ x. IsFirstLong most (member l d ms) x.0 x.1) same (first_here most l d ms o long)
  | inr short ↦ first_later most l d ms k n o short (first_long most ms k n o.2 (rw short at e))
]

-- ---- the first of all

-- whether a pool has too many
abbrev pub IsTested : PoolLimits → Pools → PoolName → Option Oversized → Type 0
IsTested limits P pool o = MatchOption o (size_of pool P ≤ most_of pool limits) (λ x. (x ≡ record { pool = pool; found = size_of pool P; allowed = most_of pool limits }) × (most_of pool limits < size_of pool P))

abbrev pub AreTested : (Bor (List ℕ) → PoolName) → ℕ → Members → Option Oversized → Type 0
AreTested pool most ms o = MatchOption o (long_list most ms ≡ None) (IsLongList pool most ms)

-- of two lists of one member, the one that is too long and the first is not the later one
list_first : (lists k text : List ℕ) → (text ≡ k) ⊎ (text_cmp k text ≡ Less) → path_cmp (name lists ∷ name text ∷ []) (name lists ∷ name k ∷ []) ≢ Less
list_first lists k text first =
    let below : path_cmp (name text ∷ []) (name k ∷ []) ≢ Less = elim first [
      | inl same ↦ λ less. let equal = same_step (name k) [] [] in let no = rw same at less in cc
      | inr later ↦ not_before_name k text [] [] later
    ] in
    subst (λ order. order ≢ Less) (sym (same_step (name lists) (name text ∷ []) (name k ∷ []))) below

module _ (limits : PoolLimits) (P : Pools) where
  abbrev Small : PoolName → Type 0
  Small pool = size_of pool P ≤ most_of pool limits

  abbrev AreShort : Members → Type 0
  AreShort ms = (text : List ℕ) → count_at text ms ≤ limits.entries

  -- no pool that has too many comes before this one
  abbrev IsEarliest : PoolName → Type 0
  IsEarliest pool = (q : PoolName) → most_of q limits < size_of q P → path_cmp (place_of q) (place_of pool) ≢ Less

  any_first : IsEarliest Any
  any_first Any over = λ less. cc
  any_first q over = λ less. cc

  fixed_first : Small Any → IsEarliest Fixed
  fixed_first a Any over = absurd (omega arith)
  fixed_first a q over = λ less. cc

  fixed_at_first : Small Any → Small Fixed → (k : Bor (List ℕ)) → ((text : List ℕ) → limits.entries < count_at text P.fixed → (text ≡ k.now) ⊎ (text_cmp k.now text ≡ Less)) → IsEarliest (FixedAt k)
  fixed_at_first a f k first Any over = absurd (omega arith)
  fixed_at_first a f k first Fixed over = absurd (omega arith)
  fixed_at_first a f k first (FixedAt text) over = list_first (codes "fixed") k.now text.now (first text.now over)
  fixed_at_first a f k first q over = λ less. cc

  integers_first : Small Any → Small Fixed → AreShort P.fixed → IsEarliest Integers
  integers_first a f g Any over = absurd (omega arith)
  integers_first a f g Fixed over = absurd (omega arith)
  integers_first a f g (FixedAt text) over = let few = g text.now in absurd (omega arith)
  integers_first a f g q over = λ less. cc

  names_first : Small Any → Small Fixed → AreShort P.fixed → Small Integers → IsEarliest Names
  names_first a f g i Any over = absurd (omega arith)
  names_first a f g i Fixed over = absurd (omega arith)
  names_first a f g i (FixedAt text) over = let few = g text.now in absurd (omega arith)
  names_first a f g i Integers over = absurd (omega arith)
  names_first a f g i q over = λ less. cc

  numbers_first : Small Any → Small Fixed → AreShort P.fixed → Small Integers → Small Names → IsEarliest Numbers
  numbers_first a f g i n Any over = absurd (omega arith)
  numbers_first a f g i n Fixed over = absurd (omega arith)
  numbers_first a f g i n (FixedAt text) over = let few = g text.now in absurd (omega arith)
  numbers_first a f g i n Integers over = absurd (omega arith)
  numbers_first a f g i n Names over = absurd (omega arith)
  numbers_first a f g i n q over = λ less. cc

  paths_first : Small Any → Small Fixed → AreShort P.fixed → Small Integers → Small Names → Small Numbers → IsEarliest Paths
  paths_first a f g i n m Any over = absurd (omega arith)
  paths_first a f g i n m Fixed over = absurd (omega arith)
  paths_first a f g i n m (FixedAt text) over = let few = g text.now in absurd (omega arith)
  paths_first a f g i n m Integers over = absurd (omega arith)
  paths_first a f g i n m Names over = absurd (omega arith)
  paths_first a f g i n m Numbers over = absurd (omega arith)
  paths_first a f g i n m q over = λ less. cc

  at_first : Small Any → Small Fixed → AreShort P.fixed → Small Integers → Small Names → Small Numbers → Small Paths → (k : Bor (List ℕ)) → ((text : List ℕ) → limits.entries < count_at text P.paths → (text ≡ k.now) ⊎ (text_cmp k.now text ≡ Less)) → IsEarliest (At k)
  at_first a f g i n m p k first Present over = λ less. cc
  at_first a f g i n m p k first Strings over = λ less. cc
  at_first a f g i n m p k first (At text) over = list_first (codes "paths") k.now text.now (first text.now over)
  at_first a f g i n m p k first (FixedAt text) over = let few = g text.now in absurd (omega arith)
  at_first a f g i n m p k first q over = absurd (omega arith)

  present_first : Small Any → Small Fixed → AreShort P.fixed → Small Integers → Small Names → Small Numbers → Small Paths → AreShort P.paths → IsEarliest Present
  present_first a f g i n m p t Present over = λ less. cc
  present_first a f g i n m p t Strings over = λ less. cc
  present_first a f g i n m p t (At text) over = let few = t text.now in absurd (omega arith)
  present_first a f g i n m p t (FixedAt text) over = let few = g text.now in absurd (omega arith)
  present_first a f g i n m p t q over = absurd (omega arith)

  strings_first : Small Any → Small Fixed → AreShort P.fixed → Small Integers → Small Names → Small Numbers → Small Paths → AreShort P.paths → Small Present → IsEarliest Strings
  strings_first a f g i n m p t r Strings over = λ less. cc
  strings_first a f g i n m p t r (At text) over = let few = t text.now in absurd (omega arith)
  strings_first a f g i n m p t r (FixedAt text) over = let few = g text.now in absurd (omega arith)
  strings_first a f g i n m p t r q over = absurd (omega arith)

  is_first : (pool : PoolName) (x : Oversized) → (x ≡ record { pool = pool; found = size_of pool P; allowed = most_of pool limits }) × (most_of pool limits < size_of pool P) → IsEarliest pool → IsOversized limits P x
  is_first pool x h first = subst (IsOversized limits P) (sym h.0) (record { found = refl; allowed = refl; over = h.1; first = first })

  fixed_is_first : (x : Oversized) → AreMembers P.fixed → Small Any → Small Fixed → IsLongList FixedAt limits.entries P.fixed x → IsOversized limits P x
  fixed_is_first x o a f h =
      let r = first_long limits.entries P.fixed h.0.now x.found o h.3 in
      record { found = rw h.1 r.count; allowed = rw h.1 h.2; over = rw h.2 r.over; first = rw h.1 (fixed_at_first a f h.0 r.first) }

  path_is_first : (x : Oversized) → AreMembers P.paths → Small Any → Small Fixed → AreShort P.fixed → Small Integers → Small Names → Small Numbers → Small Paths → IsLongList At limits.entries P.paths x → IsOversized limits P x
  path_is_first x o a f g i n m p h =
      let r = first_long limits.entries P.paths h.0.now x.found o h.3 in
      record { found = rw h.1 r.count; allowed = rw h.1 h.2; over = rw h.2 r.over; first = rw h.1 (at_first a f g i n m p h.0 r.first) }

  all_small : Small Any → Small Fixed → AreShort P.fixed → Small Integers → Small Names → Small Numbers → Small Paths → AreShort P.paths → Small Present → Small Strings → AreSmall limits P
  all_small a f g i n m p t r s = record {
    integers = i;
    numbers = m;
    strings = s;
    names = n;
    any = a;
    paths = p;
    at_paths = λ text ds at. let few = t text in rw at at few;
    fixed = f;
    at_fixed = λ text ds at. let few = g text in rw at at few;
    present = r;
  }

  abbrev short : (ms : Members) → long_list limits.entries ms ≡ None → AreShort ms
  short ms none = no_long_list limits.entries ms none

  -- from `paths` on
  later_oversized : (paths list present strings : Option Oversized) → AreMembers P.paths → Small Any → Small Fixed → AreShort P.fixed → Small Integers → Small Names → Small Numbers → IsTested limits P Paths paths → AreTested At limits.entries P.paths list
      → IsTested limits P Present present → IsTested limits P Strings strings → MatchOption (option_or (option_or (option_or paths list) present) strings) (AreSmall limits P) (IsOversized limits P)
  later_oversized (Some x) list present strings o a f g i n m p t r s = is_first Paths x p (paths_first a f g i n m)
  later_oversized None (Some x) present strings o a f g i n m p t r s = path_is_first x o a f g i n m p t
  later_oversized None None (Some x) strings o a f g i n m p t r s = is_first Present x r (present_first a f g i n m p (short P.paths t))
  later_oversized None None None (Some x) o a f g i n m p t r s = is_first Strings x s (strings_first a f g i n m p (short P.paths t) r)
  later_oversized None None None None o a f g i n m p t r s = all_small a f g i n m p (short P.paths t) r s

  pub first_oversized : (any fixed fixed_list integers names numbers paths list present strings : Option Oversized) → AreMembers P.fixed → AreMembers P.paths → IsTested limits P Any any → IsTested limits P Fixed fixed → AreTested FixedAt limits.entries P.fixed fixed_list
      → IsTested limits P Integers integers → IsTested limits P Names names → IsTested limits P Numbers numbers → IsTested limits P Paths paths → AreTested At limits.entries P.paths list → IsTested limits P Present present → IsTested limits P Strings strings
      → MatchOption (option_or (option_or (option_or (option_or (option_or (option_or (option_or (option_or (option_or any fixed) fixed_list) integers) names) numbers) paths) list) present) strings) (AreSmall limits P) (IsOversized limits P)
  first_oversized (Some x) fixed fixed_list integers names numbers paths list present strings of op a f g i n m p t r s = is_first Any x a any_first
  first_oversized None (Some x) fixed_list integers names numbers paths list present strings of op a f g i n m p t r s = is_first Fixed x f (fixed_first a)
  first_oversized None None (Some x) integers names numbers paths list present strings of op a f g i n m p t r s = fixed_is_first x of a f g
  first_oversized None None None (Some x) names numbers paths list present strings of op a f g i n m p t r s = is_first Integers x i (integers_first a f (short P.fixed g))
  first_oversized None None None None (Some x) numbers paths list present strings of op a f g i n m p t r s = is_first Names x n (names_first a f (short P.fixed g) i)
  first_oversized None None None None None (Some x) paths list present strings of op a f g i n m p t r s = is_first Numbers x m (numbers_first a f (short P.fixed g) i n)
  first_oversized None None None None None None paths list present strings of op a f g i n m p t r s = later_oversized paths list present strings op a f (short P.fixed g) i n m p t r s
