-- Which texts are those of the beginnings of a path.
use Rattle.std.proofs.Common.{◌≡◌, ◌↔◌, ℕ, List, [], ◌∷◌, ◌++◌, Option, Some, refl, sym, ap, subst, ◌∙◌, inl, inr, append_assoc, append-nil}
use Rattle.std.specs.Prelude.{is_some}
use Rattle.std.specs.Str.{bytes_eq}
use Rattle.std.proofs.lemmas.List.{append_cancel_left}
use Rattle.std.proofs.lemmas.List.Concat.{flat_map-append}
use Rattle.jtree.specs.Internal.Lookups.{bool_cases, same_name, own_name}
use Rattle.schema.specs.Document.Texts.{is_among}
use Rattle.explain.specs.Paths.FieldPath.{FieldStep, FieldPath}
use Rattle.explain.specs.Paths.PathText.{step_text, path_text}
use Rattle.plan.specs.Samples.Site.{below}
use Rattle.plan.specs.Pools.Along.{beginnings}
use Rattle.cover.specs.Internal.Narrowed.{rest_at}

-- different paths have different texts
abbrev pub OneText : Type 0
OneText = (p q : FieldPath) → path_text p ≡ path_text q → p ≡ q

-- the text of a path that goes on by a step
pub text_below : (front : FieldPath) (s : FieldStep) → below (path_text front) s ≡ path_text (front ++ s ∷ [])
text_below front s = sym (flat_map-append step_text front (s ∷ []) ∙ ap (λ x. path_text front ++ x) (append-nil (step_text s)))

pub append_one : (a : FieldPath) (s : FieldStep) (p : FieldPath) → (a ++ s ∷ []) ++ p ≡ a ++ s ∷ p
append_one a s p = append_assoc a (s ∷ []) p

-- the texts of beginnings are those after which something is left
pub among_beginnings : (front : List ℕ) (p : FieldPath) (text : List ℕ) → is_among text (beginnings front p) ≡ is_some (rest_at front p text)
among_beginnings front [] text = refl
among_beginnings front (s ∷ p) text = elim (bool_cases (bytes_eq text (below front s))) [
  | inl same ↦ rw same refl
  | inr other ↦ rw other (among_beginnings (below front s) p text)
]

pub record IsBeginning (front : List ℕ) (p : FieldPath) (text : List ℕ) (r : FieldPath) : Type 0 where
  pub before : FieldPath
  pub step : FieldStep
  pub whole : before ++ step ∷ r ≡ p
  pub text_is : text ≡ front ++ path_text (before ++ step ∷ [])

pub beginning : (front : List ℕ) (p : FieldPath) (text : List ℕ) (r : FieldPath) → rest_at front p text ≡ Some r → IsBeginning front p text r
beginning front [] text r e = absurd (cc)
beginning front (s ∷ p) text r e = elim (bool_cases (bytes_eq text (below front s))) [
  | inl same ↦
      let there : Some p ≡ Some r = rw same at e in
      let left : p ≡ r = cc in
      record { before = []; step = s; whole = ap (λ x. s ∷ x) (sym left); text_is = same_name text (below front s) same ∙ ap (λ x. front ++ x) (sym (append-nil (step_text s))) }
  | inr other ↦
      let there : rest_at (below front s) p text ≡ Some r = rw other at e in
      let b = beginning (below front s) p text r there in
      record { before = s ∷ b.before; step = b.step; whole = ap (λ x. s ∷ x) b.whole; text_is = b.text_is ∙ append_assoc front (step_text s) (path_text (b.before ++ b.step ∷ [])) }
]

-- something is left after each beginning
pub has_rest : (front : List ℕ) (a : FieldPath) (s : FieldStep) (r : FieldPath) (text : List ℕ) → text ≡ front ++ path_text (a ++ s ∷ [])
    → (x : FieldPath) × (rest_at front (a ++ s ∷ r) text ≡ Some x)
has_rest front [] s r text e =
    let same : text ≡ below front s = e ∙ ap (λ x. front ++ x) (append-nil (step_text s)) in
    (r, rw same (rw (own_name (below front s)) refl))
has_rest front (t ∷ a) s r text e = elim (bool_cases (bytes_eq text (below front t))) [
  | inl same ↦ (a ++ s ∷ r, rw same refl)
  | inr other ↦
      let x = has_rest (below front t) a s r text (e ∙ sym (append_assoc front (step_text t) (path_text (a ++ s ∷ [])))) in
      (x.0, rw other x.1)
]

-- what is left of a path after the text of one that goes on by a step
abbrev pub IsLeft : FieldPath → (List ℕ → Option FieldPath) → Type 0
IsLeft p left = (front : FieldPath) (s : FieldStep) (r : FieldPath) → left (below (path_text front) s) ≡ Some r ↔ (front ++ s ∷ r ≡ p)

left_only : OneText → (p front : FieldPath) (s : FieldStep) (r : FieldPath) → rest_at [] p (below (path_text front) s) ≡ Some r → front ++ s ∷ r ≡ p
left_only one p front s r e =
    let b = beginning [] p (below (path_text front) s) r e in
    let same : b.before ++ b.step ∷ [] ≡ front ++ s ∷ [] = one (b.before ++ b.step ∷ []) (front ++ s ∷ []) (sym b.text_is ∙ text_below front s) in
    sym (append_one front s r) ∙ (ap (λ x. x ++ r) (sym same) ∙ (append_one b.before b.step r ∙ b.whole))

pub is_left : OneText → (p : FieldPath) → IsLeft p (rest_at [] p)
is_left one p front s r = (
  left_only one p front s r,
  λ e.
      let x = has_rest [] front s r (below (path_text front) s) (text_below front s) in
      let there : rest_at [] p (below (path_text front) s) ≡ Some x.0 = subst (λ q. rest_at [] q (below (path_text front) s) ≡ Some x.0) e x.1 in
      let whole = left_only one p front s x.0 there in
      let ends : s ∷ x.0 ≡ s ∷ r = append_cancel_left front (s ∷ x.0) (s ∷ r) (whole ∙ sym e) in
      let same : x.0 ≡ r = cc in
      there ∙ ap Some same,
)

-- nothing is left after the whole path
pub last_left : OneText → (front : FieldPath) (s : FieldStep) (p : FieldPath) → rest_at [] (front ++ s ∷ p) (path_text (front ++ s ∷ p)) ≡ Some []
last_left one front s [] = subst (λ t. rest_at [] (front ++ s ∷ []) t ≡ Some []) (text_below front s) ((is_left one (front ++ s ∷ []) front s []).1 refl)
last_left one front s (t ∷ p) = subst (λ q. rest_at [] q (path_text q) ≡ Some []) (append_one front s (t ∷ p)) (last_left one (front ++ s ∷ []) t p)
