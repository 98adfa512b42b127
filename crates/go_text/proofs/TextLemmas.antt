-- How a text is cut, split and compared, one character more.
use Rattle.std.proofs.Common.{◌≡◌, ◌+◌, ◌<◌, ℕ, [], ◌∷◌, ◌++◌, length, take, drop, get_or, nat_eq, true, false, Option, Some, None, option_map, refl, sym, ap, ◌∙◌, append_assoc, append-nil}
use Rattle.std.proofs.lemmas.List.{drop_more, take_more}
use Rattle.std.specs.List.{starts_with}
use Rattle.go_text.specs.Texts.{Text, with_first, cut}
use Rattle.go_text.specs.Groups.{is_flag, split_flags}

-- ---- a text that is cut

abbrev pub with_front : Text → Text × Text → Text × Text
with_front front x = (front ++ x.0, x.1)

front_more : (front : Text) (c : ℕ) (o : Option (Text × Text)) → option_map (with_front (front ++ c ∷ [])) o ≡ option_map (with_front front) (option_map (with_first c) o)
front_more front c None = refl
front_more front c (Some x) = ap (λ t. Some (t, x.1)) (append_assoc front (c ∷ []) x.0)

cut_first : (mark : Text) (c : ℕ) (t : Text) → starts_with nat_eq (c ∷ t) mark ≡ false → cut mark (c ∷ t) ≡ option_map (with_first c) (cut mark t)
cut_first mark c t other = rw other refl

-- the mark does not stand here
pub cut_more : (mark text : Text) (i : ℕ) → i < length text → starts_with nat_eq (drop i text) mark ≡ false
    → option_map (with_front (take (i + 1) text)) (cut mark (drop (i + 1) text)) ≡ option_map (with_front (take i text)) (cut mark (drop i text))
cut_more mark text i within other =
    let c = get_or text i 0 in
    let rest = drop (i + 1) text in
    let here : drop i text ≡ c ∷ rest = drop_more text i 0 within in
    ap (λ t. option_map (with_front t) (cut mark rest)) (take_more text i 0 within)
    ∙ (front_more (take i text) c (cut mark rest)
    ∙ ap (option_map (with_front (take i text))) (sym (cut_first mark c rest (ap (λ t. starts_with nat_eq t mark) (sym here) ∙ other)) ∙ ap (cut mark) (sym here)))

cut_at_first : (mark : Text) (c : ℕ) (t : Text) → starts_with nat_eq (c ∷ t) mark ≡ true → cut mark (c ∷ t) ≡ Some ([], drop (length mark) (c ∷ t))
cut_at_first mark c t yes_it = rw yes_it refl

-- the mark stands here
pub cut_here : (mark text : Text) (i : ℕ) → i < length text → starts_with nat_eq (drop i text) mark ≡ true → cut mark (drop i text) ≡ Some ([], drop (length mark) (drop i text))
cut_here mark text i within yes_it =
    let here : drop i text ≡ get_or text i 0 ∷ drop (i + 1) text = drop_more text i 0 within in
    ap (cut mark) here ∙ (cut_at_first mark _ _ (ap (λ t. starts_with nat_eq t mark) (sym here) ∙ yes_it) ∙ ap (λ t. Some ([], drop (length mark) t)) (sym here))

pub cut_found : (mark text before after : Text) (i : ℕ) → i < length text → starts_with nat_eq (drop i text) mark ≡ true
    → before ≡ take i text → after ≡ drop (length mark) (drop i text)
    → option_map (with_front (take i text)) (cut mark (drop i text)) ≡ cut mark text → Some (before, after) ≡ cut mark text
cut_found mark text before after i within yes_it front back whole =
    rw (front, back) (ap (λ t. Some (t, drop (length mark) (drop i text))) (sym (append-nil (take i text)))
    ∙ (ap (option_map (with_front (take i text))) (sym (cut_here mark text i within yes_it)) ∙ whole))

-- ---- the flags at the front

flags_front : (front : Text) (c : ℕ) (x : Text × Text) → with_front (front ++ c ∷ []) x ≡ with_front front (with_first c x)
flags_front front c x = ap (λ t. (t, x.1)) (append_assoc front (c ∷ []) x.0)

flags_first : (c : ℕ) (t : Text) → is_flag c ≡ true → split_flags (c ∷ t) ≡ with_first c (split_flags t)
flags_first c t yes_it = rw yes_it refl

flags_none : (c : ℕ) (t : Text) → is_flag c ≡ false → split_flags (c ∷ t) ≡ ([], c ∷ t)
flags_none c t other = rw other refl

-- one flag more
pub flags_more : (text : Text) (i : ℕ) → i < length text → is_flag (get_or text i 0) ≡ true
    → with_front (take i text) (split_flags (drop i text)) ≡ split_flags text
    → with_front (take (i + 1) text) (split_flags (drop (i + 1) text)) ≡ split_flags text
flags_more text i within yes_it whole =
    let c = get_or text i 0 in
    let rest = drop (i + 1) text in
    ap (λ t. with_front t (split_flags rest)) (take_more text i 0 within)
    ∙ (flags_front (take i text) c (split_flags rest)
    ∙ (ap (with_front (take i text)) (sym (flags_first c rest yes_it) ∙ ap split_flags (sym (drop_more text i 0 within))) ∙ whole))

-- and no more
pub flags_end : (text : Text) (i : ℕ) → i < length text → is_flag (get_or text i 0) ≡ false
    → with_front (take i text) (split_flags (drop i text)) ≡ split_flags text → (take i text, drop i text) ≡ split_flags text
flags_end text i within other whole =
    let here : drop i text ≡ get_or text i 0 ∷ drop (i + 1) text = drop_more text i 0 within in
    let none : split_flags (drop i text) ≡ ([], drop i text) = ap split_flags here ∙ (flags_none _ _ other ∙ ap (λ t. ([], t)) (sym here)) in
    ap (λ t. (t, drop i text)) (sym (append-nil (take i text))) ∙ (ap (with_front (take i text)) (sym none) ∙ whole)
