-- The reading accepts exactly the texts of paths.
use Rattle.std.proofs.Common.{◌≡◌, ◌≢◌, ◌+◌, ◌<◌, ◌==◌, ℕ, List, [], ◌∷◌, ◌++◌, true, false, flat_map, length, take, drop, get_or, Bor, Option, None, Some, Decides, MatchOption, refl, sym, ap, subst, ◌∙◌, inl, inr, append_assoc}
use Rattle.std.proofs.lemmas.Bool.{eqb-true}
use Rattle.std.proofs.lemmas.Grind.{flat_map-append}
use Rattle.std.proofs.lemmas.List.{append_cancel_left, drop_more, take-append-drop}
use Rattle.jtree.specs.Internal.Lookups.{bool_cases}
use Rattle.explain.specs.Paths.FieldPath.{field, item, value, FieldPath}
use Rattle.explain.specs.Paths.PathText.{escaped, step_text, path_text}
use Rattle.explain.specs.declared.reading.Stage.{Stage}
use Rattle.explain.specs.declared.reading.Stage.TheVariants.{Between, Step, Name, Escape, Item, Value, Wrong}
use Rattle.explain.specs.Internal.Reading.{IsPathText, in_name, after_byte, is_read, IsEnd, IsAfterStep}
use Rattle.explain.proofs.ListLemmas.{tails}
use Rattle.explain.proofs.LetterLemmas.{IsPlain, letter_cases, escaped_plain, begins, path_end}

-- ---- what is read is the text of a path

abbrev HasName : List ℕ → Type 0
HasName t = (k : List ℕ) × (p : FieldPath) × (flat_map escaped k ++ path_text p ≡ t)

abbrev Reads : Stage → List ℕ → Type 0
Reads Between t = IsPathText t
Reads Step t = IsPathText (47 ∷ t)
Reads Name t = HasName t
Reads Escape t = HasName (126 ∷ t)
Reads Item t = IsPathText (47 ∷ 91 ∷ t)
Reads Value t = IsPathText (47 ∷ 123 ∷ t)
Reads Wrong t = ⊥

letter_more : (b : ℕ) (t u : List ℕ) → escaped b ++ t ≡ u → HasName t → HasName u
letter_more b t u e n = (b ∷ n.0, n.1, append_assoc (escaped b) (flat_map escaped n.0) (path_text n.1) ∙ (ap (λ x. escaped b ++ x) n.2 ∙ e))

from_name : (b : ℕ) (t : List ℕ) → ((s : Stage) → is_read s t ≡ true → Reads s t) → is_read (in_name b) t ≡ true → HasName (b ∷ t)
from_name b t go h = elim (letter_cases b) [
  | inl e ↦ rw e (go Escape (rw e at h))
  | inr (inl e) ↦ let r = go Step (rw e at h) in rw e ([], r.0, r.1)
  | inr (inr (inl e)) ↦ absurd (go Wrong (rw e at h))
  | inr (inr (inr (inl e))) ↦ absurd (go Wrong (rw e at h))
  | inr (inr (inr (inr p))) ↦ letter_more b t (b ∷ t) (rw (escaped_plain b p) refl) (go Name (rw (p.slash, p.tilde, p.bracket, p.brace) at h))
]

from_escape : (b : ℕ) (t : List ℕ) → ((s : Stage) → is_read s t ≡ true → Reads s t) → is_read Escape (b ∷ t) ≡ true → HasName (126 ∷ b ∷ t)
from_escape b t go h = elim (bool_cases (b == 48)) [
  | inl e ↦ let d = eqb-true b 48 e in rw d (letter_more 126 t (126 ∷ 48 ∷ t) refl (go Name (rw d at h)))
  | inr f0 ↦ elim (bool_cases (b == 49)) [
    | inl e ↦ let d = eqb-true b 49 e in rw d (letter_more 47 t (126 ∷ 49 ∷ t) refl (go Name (rw d at h)))
    | inr f1 ↦ elim (bool_cases (b == 50)) [
      | inl e ↦ let d = eqb-true b 50 e in rw d (letter_more 91 t (126 ∷ 50 ∷ t) refl (go Name (rw d at h)))
      | inr f2 ↦ elim (bool_cases (b == 51)) [
        | inl e ↦ let d = eqb-true b 51 e in rw d (letter_more 123 t (126 ∷ 51 ∷ t) refl (go Name (rw d at h)))
        | inr f3 ↦ absurd (go Wrong (rw (f0, f1, f2, f3) at h))
      ]
    ]
  ]
]

named : (t : List ℕ) → HasName t → IsPathText (47 ∷ t)
named t n = (field n.0 ∷ n.1, ap (λ x. 47 ∷ x) n.2)

no_bracket : (b : ℕ) → (b == 91) ≡ false → (b == 123) ≡ false → after_byte Step b ≡ in_name b
no_bracket b f g = rw (f, g) refl

from_byte : (s : Stage) (b : ℕ) (t : List ℕ) → ((s : Stage) → is_read s t ≡ true → Reads s t) → is_read s (b ∷ t) ≡ true → Reads s (b ∷ t)
from_byte Between b t go h = elim (bool_cases (b == 47)) [
  | inl e ↦ let d = eqb-true b 47 e in rw d (go Step (rw d at h))
  | inr f ↦ absurd (go Wrong (rw f at h))
]
from_byte Step b t go h = elim (bool_cases (b == 91)) [
  | inl e ↦ let d = eqb-true b 91 e in rw d (go Item (rw d at h))
  | inr f ↦ elim (bool_cases (b == 123)) [
    | inl e ↦ let d = eqb-true b 123 e in rw d (go Value (rw d at h))
    | inr g ↦ named (b ∷ t) (from_name b t go (ap (λ s. is_read s t) (sym (no_bracket b f g)) ∙ h))
  ]
]
from_byte Name b t go h = from_name b t go h
from_byte Escape b t go h = from_escape b t go h
from_byte Item b t go h = elim (bool_cases (b == 93)) [
  | inl e ↦ let d = eqb-true b 93 e in let r = go Between (rw d at h) in rw d (item ∷ r.0, ap (λ x. 47 ∷ 91 ∷ 93 ∷ x) r.1)
  | inr f ↦ absurd (go Wrong (rw f at h))
]
from_byte Value b t go h = elim (bool_cases (b == 125)) [
  | inl e ↦ let d = eqb-true b 125 e in let r = go Between (rw d at h) in rw d (value ∷ r.0, ap (λ x. 47 ∷ 123 ∷ 125 ∷ x) r.1)
  | inr f ↦ absurd (go Wrong (rw f at h))
]
from_byte Wrong b t go h = go Wrong h

from_end : (s : Stage) → is_read s [] ≡ true → Reads s []
from_end Between h = ([], refl)
from_end Step h = (field [] ∷ [], refl)
from_end Name h = ([], [], refl)
from_end _ h = cc

from_read : (t : List ℕ) (s : Stage) → is_read s t ≡ true → Reads s t
from_read [] s h = from_end s h
from_read (b ∷ t) s h = from_byte s b t (from_read t) h

-- ---- the text of a path is read

after_name : (p : FieldPath) → is_read Between (path_text p) ≡ true → is_read Name (path_text p) ≡ true
after_name [] h = refl
after_name (field k ∷ p) h = h
after_name (item ∷ p) h = h
after_name (value ∷ p) h = h

after_slash : (p : FieldPath) → is_read Between (path_text p) ≡ true → is_read Step (path_text p) ≡ true
after_slash [] h = refl
after_slash (field k ∷ p) h = h
after_slash (item ∷ p) h = h
after_slash (value ∷ p) h = h

plain_read : (b : ℕ) (t : List ℕ) → IsPlain b → is_read Name (b ∷ t) ≡ is_read Name t
plain_read b t p = rw (p.slash, p.tilde, p.bracket, p.brace) refl

letter_read : (b : ℕ) (t : List ℕ) → is_read Name (escaped b ++ t) ≡ is_read Name t
letter_read b t = elim (letter_cases b) [
  | inl e ↦ rw e refl
  | inr (inl e) ↦ rw e refl
  | inr (inr (inl e)) ↦ rw e refl
  | inr (inr (inr (inl e))) ↦ rw e refl
  | inr (inr (inr (inr p))) ↦ ap (λ x. is_read Name (x ++ t)) (escaped_plain b p) ∙ plain_read b t p
]

first_read : (b : ℕ) (t : List ℕ) → is_read Step (escaped b ++ t) ≡ is_read Name t
first_read b t =
    let i = begins b t in
    ap (is_read Step) i.is ∙ (ap (λ s. is_read s i.more) (no_bracket i.byte i.bracket i.brace) ∙ (ap (is_read Name) (sym i.is) ∙ letter_read b t))

name_read : (k t : List ℕ) → is_read Name t ≡ true → is_read Name (flat_map escaped k ++ t) ≡ true
name_read [] t h = h
name_read (b ∷ k) t h = ap (is_read Name) (append_assoc (escaped b) (flat_map escaped k) t) ∙ (letter_read b (flat_map escaped k ++ t) ∙ name_read k t h)

field_read : (k : List ℕ) (p : FieldPath) → is_read Between (path_text p) ≡ true → is_read Step (flat_map escaped k ++ path_text p) ≡ true
field_read [] p h = after_slash p h
field_read (b ∷ k) p h =
    ap (is_read Step) (append_assoc (escaped b) (flat_map escaped k) (path_text p)) ∙ (first_read b (flat_map escaped k ++ path_text p) ∙ name_read k (path_text p) (after_name p h))

path_read : (p : FieldPath) → is_read Between (path_text p) ≡ true
path_read [] = refl
path_read (field k ∷ p) = field_read k p (path_read p)
path_read (item ∷ p) = path_read p
path_read (value ∷ p) = path_read p

pub reading : (t : List ℕ) → Decides (is_read Between t) (IsPathText t)
reading t = (from_read t Between, λ r. subst (λ x. is_read Between x ≡ true) r.1 (path_read r.0))

-- ---- the step to a field

-- the letters so far are those of the name, and the next one is another
pub other_letter : (text k rest : List ℕ) (i : ℕ) → i < length k → text ≡ (47 ∷ flat_map escaped (take i k)) ++ rest → ((t : List ℕ) → rest ≢ escaped (get_or k i 0) ++ t)
    → (t : List ℕ) → IsAfterStep (field k) text t → ⊥
other_letter text k rest i within sofar other t after =
    let b = get_or k i 0 in
    let before = flat_map escaped (take i k) in
    let others = flat_map escaped (drop (i + 1) k) in
    let split : drop i k ≡ b ∷ drop (i + 1) k = drop_more k i 0 within in
    let whole : flat_map escaped k ≡ before ++ (escaped b ++ others) =
    ap (flat_map escaped) (sym (take-append-drop i k)) ∙ (flat_map-append escaped (take i k) (drop i k) ∙ ap (λ x. before ++ flat_map escaped x) split)
    in
    let joined : before ++ rest ≡ before ++ (escaped b ++ (others ++ t)) =
    tails (sym sofar ∙ after.1) ∙ (ap (λ x. x ++ t) whole ∙ (append_assoc before (escaped b ++ others) t ∙ ap (λ x. before ++ x) (append_assoc (escaped b) others t)))
    in
    other (others ++ t) (append_cancel_left before rest (escaped b ++ (others ++ t)) joined)

-- the name is read, and the reading continues
pub longer_name : (text k rest : List ℕ) → text ≡ step_text (field k) ++ rest → (IsEnd rest → ⊥) → (t : List ℕ) → IsAfterStep (field k) text t → ⊥
longer_name text k rest sofar other t after = other (subst IsEnd (append_cancel_left (step_text (field k)) t rest (sym after.1 ∙ sofar)) after.0)

-- the rest after a step that a name begins is that of a path
pub after_field : (text k : List ℕ) (found : Option (Bor (List ℕ))) → MatchOption found ((rest : List ℕ) → IsAfterStep (field k) text rest → ⊥) (λ rest. IsAfterStep (field k) text rest.now)
    → MatchOption found ((p : FieldPath) → text ≢ step_text (field k) ++ path_text p) (λ rest. text ≡ step_text (field k) ++ rest.now)
after_field text k None none = λ p e. none (path_text p) (path_end p, e)
after_field text k (Some rest) some = some.1
