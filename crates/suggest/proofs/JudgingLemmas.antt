-- The first of some texts that has a fault, and which faults those of paths are.
use Rattle.std.proofs.Common.{◌≡◌, ◌<◌, ◌+◌, ℕ, List, [], ◌∷◌, ◌++◌, ◌∙◌, All, inl, inr, length, get_or, take, drop, sym, ap, subst, arith}
use Rattle.std.specs.Borrow.{Bor}
use Rattle.std.specs.Prelude.{string_bytes}
use Rattle.std.proofs.lemmas.List.{map_more, map-append, take-append-drop, drop_more, take_all}
use Rattle.std.proofs.lemmas.List.Elements.{All-append}
use Rattle.jtree.specs.Data.{Data}
use Rattle.jtree.specs.Internal.Rising.{each_of}
use Rattle.schema.specs.Nodes.Node.{Node}
use Rattle.plan.specs.declared.pool_limits.PoolLimits.{PoolLimits}
use Rattle.suggest.specs.View.{texts_at}
use Rattle.suggest.specs.Suggested.Document.{single}
use Rattle.suggest.specs.Suggested.Fault.{CanVary, AreVaried, IsFirst, IsSuggestFault}
use Rattle.suggest.specs.Suggested.Varied.{reach}
use Rattle.suggest.specs.Suggested.Wanted.{Wanted}
use Rattle.suggest.specs.Suggested.Without.{without_paths}
use Rattle.suggest.specs.Internal.Faults.{IsVariedFault, IsWithoutFault}
use Rattle.suggest.specs.declared.fault.SuggestFault.{SuggestFault}
use Rattle.suggest.specs.declared.fault.SuggestFault.TheVariants.{BadPath, NotInObject, TooLarge, NoMemory}
use Rattle.suggest.specs.declared.varying.Reach.TheVariants.{Undeclared, Missing}

-- a reference to answer where there is none
abbrev pub no_text : Bor (List ℕ)
no_text = record { ref_ptr = (0, 0); now = [] }

pub first_fault : (Good Faulty : List ℕ → Type 0) (xs : List (Bor (List ℕ))) (i : ℕ) (text : List ℕ) → i < length xs → All Good (texts_at (take i xs)) → Faulty (get_or xs i no_text).now
    → text ≡ (get_or xs i no_text).now → IsFirst Good Faulty (texts_at xs) text
first_fault Good Faulty xs i text lt good faulty e = record {
  before = texts_at (take i xs);
  rest = texts_at (drop (i + 1) xs);
  is = ap texts_at (sym (take-append-drop i xs)) ∙ (map-append (λ t. t.now) (take i xs) (drop i xs)
      ∙ (ap (λ ys. texts_at (take i xs) ++ texts_at ys) (drop_more xs i no_text lt) ∙ ap (λ t. texts_at (take i xs) ++ t ∷ texts_at (drop (i + 1) xs)) (sym e)));
  good = good;
  faulty = subst Faulty (sym e) faulty;
}

all_one : (Good : List ℕ → Type 0) (t : List ℕ) → Good t → All Good (t ∷ [])
all_one Good t good = each_of Good (t ∷ []) (λ v a. elim a [ inl e ↦ subst Good e good | inr n ↦ absurd n ])

pub good_more : (Good : List ℕ → Type 0) (xs : List (Bor (List ℕ))) (i : ℕ) → i < length xs → All Good (texts_at (take i xs)) → Good (get_or xs i no_text).now → All Good (texts_at (take (i + 1) xs))
good_more Good xs i lt good here =
    subst (All Good) (sym (map_more (λ t. t.now) xs i no_text lt)) (All-append Good (texts_at (take i xs)) ((get_or xs i no_text).now ∷ []) good (all_one Good (get_or xs i no_text).now here))

pub all_good : (Good : List ℕ → Type 0) (xs : List (Bor (List ℕ))) (i : ℕ) → length xs < i + 1 → All Good (texts_at (take i xs)) → All Good (texts_at xs)
all_good Good xs i past good = subst (λ ys. All Good (texts_at ys)) (take_all i xs (omega arith)) good

-- ---- faults of paths, where vs are the objects without the paths that never occur

pub varied_fault : (limits : PoolLimits) (raw : Data) (root : Node) (w : Wanted) (vs : List Data) (e : SuggestFault) → record w { objects = vs } ≡ without_paths root w → IsVariedFault root (record w { objects = vs }) e
    → IsSuggestFault limits raw root w e
varied_fault limits raw root w vs (BadPath text) is f = inl (subst (λ u. IsFirst (CanVary root u) (λ t. reach t (single u.objects) [] root ≡ Undeclared) w.varied (string_bytes text)) is f)
varied_fault limits raw root w vs (NotInObject text) is f = subst (λ u. IsFirst (CanVary root u) (λ t. reach t (single u.objects) [] root ≡ Missing) w.varied (string_bytes text)) is f
varied_fault limits raw root w vs NoMemory is f = tt
varied_fault limits raw root w vs TooLarge is f = absurd f

pub without_fault : (limits : PoolLimits) (raw : Data) (root : Node) (w : Wanted) (e : SuggestFault) → AreVaried root (without_paths root w) → IsWithoutFault root w e → IsSuggestFault limits raw root w e
without_fault limits raw root w (BadPath text) varied f = inr (varied, f)
without_fault limits raw root w NoMemory varied f = tt
without_fault limits raw root w (NotInObject text) varied f = absurd f
without_fault limits raw root w TooLarge varied f = absurd f
