-- Items that may not be in one list have the same key.
use Rattle.std.specs.Prelude.{◌≡◌, ◌+◌, ◌<◌, ℕ, zero, suc, List, [], ◌∷◌, ◌++◌, length, Bool, true, false, Option, Some, None, option_map, ◌||◌, cond, not}
use Rattle.std.proofs.Common.{refl, sym, ap, subst, ◌∙◌, arith, get_or, below_more}
use Rattle.std.proofs.Math.ListN.{get_or-append}
use Rattle.std.proofs.Math.Seq.{get_or-append_seam}
use Rattle.std.proofs.lemmas.List.{length-append}
use Rattle.std.specs.BTreeSet.{BTreeSet, contains}
use Rattle.std.specs.Cmp.Derive.Mapped.{lex_map}
use Rattle.std.specs.Cmp.Lexicographic.{slice_cmp}
use Rattle.std.specs.Ordering.{is_eq, on}
use Rattle.std.specs.Option.{option_cmp}
use Rattle.jtree.specs.Data.{Data, Items, no_items, item}
use Rattle.jtree.specs.Equality.{keyed, keyed_cmp}
use Rattle.jtree.specs.Path.{item_at}
use Rattle.jtree.specs.View.{data_of, items_of}
use Rattle.jtree.specs.declared.equality.TreeKey.{TreeKey}
use Rattle.jtree.specs.declared.value.Tree.{Tree}
use Rattle.schema.specs.declared.node.ListType.{ListType}
use Rattle.stored.specs.Objects.Fault.{are_alike, any_before, has_alike_before}
use Rattle.stored.specs.Internal.ItemKeys.{ItemKey, item_key, values_cmp, has_key, passes, CodeKey, key_of, key_cmp, HasKeys, AreSeen}
use Rattle.stored.proofs.AscendingLemmas.{alike_by_key}

-- ---- keys

values_same : (o p : Option TreeKey) → option_cmp keyed_cmp (option_map keyed o) (option_map keyed p) ≡ option_cmp (on keyed keyed_cmp) o p
values_same None None = refl
values_same None (Some u) = refl
values_same (Some t) None = refl
values_same (Some t) (Some u) = refl

codes_same : (k l : CodeKey) → values_cmp (key_of k) (key_of l) ≡ key_cmp k l
codes_same k l = lex_map (option_map keyed) (option_cmp keyed_cmp) k.items l.items ∙ ap (λ R. slice_cmp R k.items l.items) (λ i o p. values_same o p i)

-- ---- items before an index

none_before : (i : ℕ) (ds : Items) → false ≡ any_before (λ d. false) i ds
none_before i no_items = refl
none_before zero (item d ds) = refl
none_before (suc i) (item d ds) = none_before i ds

or_more : (a b c : Bool) → a || (b || c) ≡ (b || (a || c))
or_more true true c = refl
or_more true false c = refl
or_more false b c = refl

first : (f : Data → Bool) (d : Data) (ds : Items) → (f d || any_before f zero ds) ≡ (f d || any_before f zero (item d ds))
first f d no_items = refl
first f d (item e ds) = refl

pub more_before : (f : Data → Bool) (i : ℕ) (ds : Items) (d : Data) → item_at i ds ≡ Some d → any_before f (suc i) ds ≡ (f d || any_before f i ds)
more_before f i no_items d e = cc
more_before f zero (item c ds) d e = let same : c ≡ d = cc in rw same (first f d ds)
more_before f (suc i) (item c ds) d e = rw (more_before f i ds d e) (or_more (f c) (f d) (any_before f i ds))

passing : (type : ListType) (keys : List (List ℕ)) (i : ℕ) (ds : Items) (o : Option ItemKey)
    → passes (λ k. any_before (λ e. has_key (item_key type keys e) k) i ds) o ≡ any_before (λ e. passes (has_key (item_key type keys e)) o) i ds
passing type keys i ds None = none_before i ds
passing type keys i ds (Some k) = refl

-- an item repeats another where its key is among those before
pub repeats_by_key : (type : ListType) (keys : List (List ℕ)) (i : ℕ) (ds : Items) (d : Data)
    → passes (λ k. any_before (λ e. has_key (item_key type keys e) k) i ds) (item_key type keys d) ≡ any_before (λ e. are_alike type keys e d) i ds
repeats_by_key type keys i ds d = passing type keys i ds (item_key type keys d)
    ∙ ap (λ f. any_before f i ds) (λ j e. sym (alike_by_key type keys e d) j)

pub item_of : (xs : List Tree) (i : ℕ) (x : Tree) → i < length xs → x ≡ get_or xs i x → item_at i (items_of xs) ≡ Some (data_of x)
item_of [] i x within e = absurd (omega arith)
item_of (y ∷ ys) zero x within e = ap (λ z. Some (data_of z)) (sym e)
item_of (y ∷ ys) (suc i) x within e = item_of ys i x (omega arith) e

-- ---- the set of keys

twice : (b : Bool) → not (not b) ≡ b
twice true = refl
twice false = refl

either : (a b : Bool) → cond a true b ≡ (a || b)
either true b = refl
either false b = refl

pub seen_answer : (old : BTreeSet CodeKey) (key : CodeKey) (o : Option ItemKey) (r : Bool) → r ≡ not (contains key_cmp old key) → Some (key_of key) ≡ o → (held : ItemKey → Bool) → HasKeys old held → not r ≡ passes held o
seen_answer old key o r e own held has = subst (λ p. not r ≡ passes held p) own (rw e (twice (contains key_cmp old key) ∙ has key))

pub seen_added : (old new : BTreeSet CodeKey) (key : CodeKey) (o : Option ItemKey) → ((k : CodeKey) → contains key_cmp new k ≡ cond (is_eq (key_cmp key k)) true (contains key_cmp old k)) → Some (key_of key) ≡ o
    → (held : ItemKey → Bool) → HasKeys old held → HasKeys new (λ k. has_key o k || held k)
seen_added old new key o updates own held has = subst (λ p. HasKeys new (λ k. has_key p k || held k)) own
    (λ k. updates k ∙ (ap (λ o. cond (is_eq o) true (contains key_cmp old k)) (sym (codes_same key k)) ∙ (ap (cond (is_eq (values_cmp (key_of key) (key_of k))) true) (has k) ∙ either (is_eq (values_cmp (key_of key) (key_of k))) (held (key_of k)))))

any_at_start : (f : Data → Bool) (ds : Items) → false ≡ any_before f zero ds
any_at_start f no_items = refl
any_at_start f (item d ds) = refl

pub seen_none : (type : ListType) (keys : List (List ℕ)) (ds : Items) (repeated : List Bool) (seen : BTreeSet CodeKey) → repeated ≡ [] → seen.keys ≡ [] → AreSeen type keys ds 0 repeated seen
seen_none type keys ds repeated seen e f = record {
  count = rw e refl;
  each = λ j b below. absurd (omega arith);
  held = λ k. rw f (any_at_start (λ d. has_key (item_key type keys d) (key_of k)) ds);
}

pub seen_more : (type : ListType) (keys : List (List ℕ)) (ds : Items) (i : ℕ) (d : Data) (xs ys : List Bool) (r : Bool) (old new : BTreeSet CodeKey)
    → item_at i ds ≡ Some d → ys ≡ xs ++ (r ∷ [])
    → ((held : ItemKey → Bool) → HasKeys old held → r ≡ passes held (item_key type keys d))
    → ((held : ItemKey → Bool) → HasKeys old held → HasKeys new (λ k. has_key (item_key type keys d) k || held k))
    → AreSeen type keys ds i xs old → AreSeen type keys ds (i + 1) ys new
seen_more type keys ds i d xs ys r old new here pushed answer added s =
    let before : ItemKey → Bool = λ k. any_before (λ e. has_key (item_key type keys e) k) i ds in
    let next : suc i ≡ i + 1 = omega arith in
    let here_too : (b : Bool) → get_or (xs ++ (r ∷ [])) i b ≡ has_alike_before (are_alike type keys) i ds (item_at i ds) = λ b.
    subst (λ n. get_or (xs ++ (r ∷ [])) n b ≡ r) s.count (get_or-append_seam xs r [] b)
    ∙ (answer before s.held ∙ (repeats_by_key type keys i ds d ∙ ap (has_alike_before (are_alike type keys) i ds) (sym here))) in
    record {
      count = rw pushed (omega (arith, s.count, length-append xs (r ∷ [])));
      each = rw pushed (λ j b. below_more (λ n. get_or (xs ++ (r ∷ [])) n b ≡ has_alike_before (are_alike type keys) n ds (item_at n ds)) i
          (λ n below. let within : n < length xs = omega (arith, s.count) in get_or-append xs (r ∷ []) b n within ∙ s.each n b below) (here_too b) j);
      held = λ k. added before s.held k ∙ (sym (more_before (λ e. has_key (item_key type keys e) (key_of k)) i ds d here) ∙ ap (λ n. any_before (λ e. has_key (item_key type keys e) (key_of k)) n ds) next);
    }
