-- The failures of a value's parts, joined: which they are, and that they ascend.
use Rattle.std.specs.Prelude.{◌≡◌, ◌==◌, List, [], ◌∷◌, Bool, true, false, Option, Some, None, if◌then◌else◌}
use Rattle.std.proofs.Common.{refl, sym, ap, subst, inl, inr}
use Rattle.std.specs.Str.{bytes_eq}
use Rattle.std.specs.Ordering.{nat_cmp}
use Rattle.std.specs.declared.cmp.Ordering.TheVariants.{Less}
use Rattle.std.proofs.lemmas.Bool.{eq-eqb, eqb-true}
use Rattle.std.proofs.lemmas.Cmp.{nat_list_cmp_total, nat_cmp_total, tied_itself}
use Rattle.jtree.specs.Path.{Step, name, index, Path}
use Rattle.jtree.specs.PathOrder.{step_cmp}
use Rattle.jtree.specs.Internal.Lookups.{bool_cases, same_name, own_name, later_name}
use Rattle.jtree.specs.Internal.PathLaws.{same_step}
use Rattle.jtree.specs.Internal.Rising.{Among, Rising, among_left, among_right, among_parts, rising_join}
use Rattle.judge.specs.declared.test.Test.{Test}
use Rattle.judge.specs.Faults.{Failure, failure_cmp}
use Rattle.judge.specs.Internal.FaultsByLevel.{Below, down, under, joined}
use Rattle.judge.proofs.MapLemmas.{among_map, map_among, rising_map}

abbrev pub failure : Path → Test → Failure
failure p t = record { path = p; test = t }

abbrev pub Precedes : Failure → Failure → Type 0
Precedes f g = failure_cmp f g ≡ Less

-- ---- steps

abbrev pub is_step : Step → Step → Bool
is_step (name k) (name l) = bytes_eq k l
is_step (index i) (index j) = i == j
is_step _ _ = false

pub same_if : (s t : Step) → is_step s t ≡ true → s ≡ t
same_if (name k) (name l) e = ap name (same_name k l e)
same_if (index i) (index j) e = ap index (eqb-true i j e)
same_if _ _ e = cc

itself : (s : Step) → is_step s s ≡ true
itself (name k) = own_name k
itself (index i) = eq-eqb i i refl

later : (s t : Step) → step_cmp t s ≡ Less → is_step s t ≡ false
later (name k) (name l) before = later_name k l before
later (index i) (index j) before = elim (bool_cases (i == j)) [
  | inl e ↦ let tied = tied_itself nat_cmp_total j in let less = subst (λ n. nat_cmp j n ≡ Less) (eqb-true i j e) before in cc
  | inr e ↦ e
]
later _ _ before = refl

step_trans : (s t u : Step) → step_cmp s t ≡ Less → step_cmp t u ≡ Less → step_cmp s u ≡ Less
step_trans (name k) (name l) (name m) a b = nat_list_cmp_total.trans k l m a b
step_trans (index i) (index j) (index k) a b = nat_cmp_total.trans i j k a b
step_trans (name k) _ (index j) a b = refl
step_trans _ _ _ a b = cc

-- ---- parts in the order of their steps

abbrev pub lookup : Step → List Below → Option (List Failure)
lookup s [] = None
lookup s (b ∷ bs) = if is_step s b.step then Some b.failures else lookup s bs

abbrev pub IsStepBefore : Step → List Below → Type 0
IsStepBefore s [] = Unit {0}
IsStepBefore s (b ∷ bs) = step_cmp s b.step ≡ Less

-- the steps ascend, and so do the failures at each
abbrev pub AreRising : List Below → Type 0
AreRising [] = Unit {0}
AreRising (b ∷ bs) = Rising Precedes b.failures × IsStepBefore b.step bs × AreRising bs

pub before_trans : (s t : Step) (bs : List Below) → step_cmp s t ≡ Less → IsStepBefore t bs → IsStepBefore s bs
before_trans s t [] less before = tt
before_trans s t (b ∷ bs) less before = step_trans s t b.step less before

after : (s : Step) (bs : List Below) → IsStepBefore s bs → AreRising bs → (q : Step) (fs : List Failure) → lookup q bs ≡ Some fs → step_cmp s q ≡ Less
after s [] before r q fs e = cc
after s (b ∷ bs) before r q fs e = elim (bool_cases (is_step q b.step)) [
  | inl h ↦ subst (λ t. step_cmp s t ≡ Less) (sym (same_if q b.step h)) before
  | inr h ↦ after s bs (before_trans s b.step bs before r.1) r.2 q fs (rw h at e)
]

-- ---- below one step

among_under : (s : Step) (fs : List Failure) (f : Failure) → Among (under s fs) f → (p : Path) × (f.path ≡ s ∷ p) × Among fs (failure p f.test)
among_under s fs f a = let x = among_map (down s) fs f a in (x.0.path, ap (λ y. y.path) (sym x.1), subst (λ t. Among fs (failure x.0.path t)) (ap (λ y. y.test) x.1) x.2)

rising_under : (s : Step) (fs : List Failure) → Rising Precedes fs → Rising Precedes (under s fs)
rising_under s fs r = rising_map (down s) Precedes Precedes (λ f g less. rw same_step less) fs r

-- ---- all parts

-- a failure is at a part
pub record IsJoined (bs : List Below) (f : Failure) : Type 0 where
  pub step : Step
  pub rest : Path
  pub failures : List Failure
  pub is : f.path ≡ step ∷ rest
  pub there : lookup step bs ≡ Some failures
  pub among : Among failures (failure rest f.test)

pub is_joined : (bs : List Below) → AreRising bs → (f : Failure) → Among (joined bs) f → IsJoined bs f
is_joined [] r f a = elim a [ ]
is_joined (b ∷ bs) r f a = elim (among_parts (under b.step b.failures) (joined bs) f a) [
  | inl u ↦ let x = among_under b.step b.failures f u in record { step = b.step; rest = x.0; failures = b.failures; is = x.1; there = rw (itself b.step) refl; among = x.2 }
  | inr u ↦
      let x = is_joined bs r.2 f u in
      let other = later x.step b.step (after b.step bs r.1 r.2 x.step x.failures x.there) in
      record { step = x.step; rest = x.rest; failures = x.failures; is = x.is; there = rw other x.there; among = x.among }
]

pub joined_failure : (bs : List Below) (s : Step) (p : Path) (t : Test) (fs : List Failure) → lookup s bs ≡ Some fs → Among fs (failure p t) → Among (joined bs) (failure (s ∷ p) t)
joined_failure [] s p t fs e a = cc
joined_failure (b ∷ bs) s p t fs e a = elim (bool_cases (is_step s b.step)) [
  | inl h ↦
      let own : b.failures ≡ fs = let found = rw h at e in cc in
      among_left (under b.step b.failures) (joined bs) (failure (s ∷ p) t)
      (subst (λ q. Among (under q b.failures) (failure (s ∷ p) t)) (same_if s b.step h) (map_among (down s) b.failures (failure p t) (subst (λ gs. Among gs (failure p t)) (sym own) a)))
  | inr h ↦ among_right (under b.step b.failures) (joined bs) (failure (s ∷ p) t) (joined_failure bs s p t fs (rw h at e) a)
]

earlier : (f g : Failure) (s t : Step) (p q : Path) → f.path ≡ s ∷ p → g.path ≡ t ∷ q → step_cmp s t ≡ Less → Precedes f g
earlier f g s t p q e h less = rw (e, h, less) refl

pub rising_joined : (bs : List Below) → AreRising bs → Rising Precedes (joined bs)
rising_joined [] r = tt
rising_joined (b ∷ bs) r = rising_join Precedes (under b.step b.failures) (joined bs) (rising_under b.step b.failures r.0) (rising_joined bs r.2)
    (λ v w a c.
    let x = among_under b.step b.failures v a in
    let y = is_joined bs r.2 w c in
    earlier v w b.step y.step x.0 y.rest x.1 y.is (after b.step bs r.1 r.2 y.step y.failures y.there))
