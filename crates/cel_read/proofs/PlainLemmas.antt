-- Blanks, words and symbols: what is read, and that it is as long as can be. And which texts are lexemes of one sort alone.
use Rattle.std.proofs.Common.{◌≡◌, ◌<◌, ◌⊎◌, ◌∙◌, ℕ, Bool, true, false, not, ◌&&◌, ◌||◌, ◌==◌, List, [], ◌∷◌, ◌++◌, length, Option, Some, None, refl, sym, ap, subst, inl, inr, arith, codes, if◌then◌else◌}
use Rattle.std.specs.List.{list_all}
use Rattle.std.specs.Cmp.Lexicographic.{same_text}
use Rattle.std.proofs.lemmas.Bool.{eqb-true}
use Rattle.std.proofs.lemmas.Bool.Decides.{nat_tests}
use Prim.Native.String.{String}
use Rattle.cel_read.specs.declared.token.Symbol.{Symbol}
use Rattle.cel_read.specs.Lexemes.{Text, Lexeme, blank, symbol, word, is_among, spells, is_white, is_of_comment, IsBlank, white, comment, is_letter, is_of_word, IsWord, a_word, is_quote, listed, signs_of_one, signs_of_two, one_sign, two_signs, IsSymbol, one, two}
use Rattle.cel_read.specs.Internal.Runs.{run}
use Rattle.cel_read.specs.Internal.Reading.{read_comment, read_blank, read_word, is_decimal, begins_with_digit, begins_fraction, one_symbol, two_symbol, read_symbol}
use Rattle.cel_read.proofs.RunLemmas.{both, run_splits, run_passes, run_over_cases}
use Rattle.cel_read.proofs.Readers.{Front, Sound, Reaches, Longest, at, front_is}

-- ---- blanks

comment_sound : (c : ℕ) (t : Text) (l : Lexeme) (rest : Text) → read_comment c t ≡ Some (l, rest) → Front IsBlank (c ∷ t) l rest
comment_sound c [] l rest h = cc
comment_sound c (d ∷ t) l rest h = by (c == 0x2F && d == 0x2F) refl h
  where
    by : (b : Bool) → (c == 0x2F && d == 0x2F) ≡ b → (if b then Some (at blank (run is_of_comment t).1) else None) ≡ Some (l, rest) → Front IsBlank (c ∷ d ∷ t) l rest
    by true e h =
        let s = both (c == 0x2F) (d == 0x2F) e in
        let cs = (run is_of_comment t).0 in
        let here : 0x2F ∷ 0x2F ∷ cs ≡ c ∷ d ∷ cs = ap (λ k. k ∷ 0x2F ∷ cs) (sym (eqb-true c 0x2F s.0)) ∙ ap (λ k. c ∷ k ∷ cs) (sym (eqb-true d 0x2F s.1)) in
        front_is IsBlank (c ∷ d ∷ t) (blank, (run is_of_comment t).1) l rest h
        (c ∷ d ∷ cs, ap (λ u. c ∷ d ∷ u) (run_splits is_of_comment t), subst (λ u. IsBlank u blank) here (comment cs (run_passes is_of_comment t)))
    by false e h = cc

pub blank_sound : Sound read_blank IsBlank
blank_sound [] l rest h = cc
blank_sound (c ∷ t) l rest h = by (is_white c) refl h
  where
    by : (b : Bool) → is_white c ≡ b → (if b then Some (at blank t) else read_comment c t) ≡ Some (l, rest) → Front IsBlank (c ∷ t) l rest
    by true e h = front_is IsBlank (c ∷ t) (blank, t) l rest h (c ∷ [], refl, white c e)
    by false e h = comment_sound c t l rest h

pub blank_longest : Longest read_blank IsBlank
blank_longest x z l (white c e) = subst (λ b. Reaches (if b then Some (at blank z) else read_comment c z) blank z) (sym e) (inr refl)
blank_longest x z l (comment cs h) = by (run_over_cases is_of_comment cs z h)
  where
    by : (length (run is_of_comment (cs ++ z)).1 < length z) ⊎ (run is_of_comment (cs ++ z) ≡ (cs, z)) → Reaches (Some (blank, (run is_of_comment (cs ++ z)).1)) blank z
    by (inl s) = inl s
    by (inr e) = inr (ap (λ w. (blank, w.1)) e)

-- ---- words

pub word_sound : Sound read_word IsWord
word_sound [] l rest h = cc
word_sound (c ∷ t) l rest h = by (is_letter c) refl h
  where
    cs : Text
    cs = (run is_of_word t).0

    by : (b : Bool) → is_letter c ≡ b → (if b then Some (at (word (c ∷ (run is_of_word t).0)) (run is_of_word t).1) else None) ≡ Some (l, rest) → Front IsWord (c ∷ t) l rest
    by true e h =
        front_is IsWord (c ∷ t) (word (c ∷ (run is_of_word t).0), (run is_of_word t).1) l rest h
        (c ∷ cs, ap (λ u. c ∷ u) (run_splits is_of_word t), a_word c cs e (run_passes is_of_word t))
    by false e h = cc

pub word_longest : Longest read_word IsWord
word_longest x z l (a_word c cs e h) =
    subst (λ b. Reaches (if b then Some (at (word (c ∷ (run is_of_word (cs ++ z)).0)) (run is_of_word (cs ++ z)).1) else None) (word (c ∷ cs)) z) (sym e) (by (run_over_cases is_of_word cs z h))
  where
    by : (length (run is_of_word (cs ++ z)).1 < length z) ⊎ (run is_of_word (cs ++ z) ≡ (cs, z))
        → Reaches (Some (word (c ∷ (run is_of_word (cs ++ z)).0), (run is_of_word (cs ++ z)).1)) (word (c ∷ cs)) z
    by (inl s) = inl s
    by (inr e) = inr (ap (λ w. (word (c ∷ w.0), w.1)) e)

-- ---- symbols

one_sound : (c : ℕ) (t : Text) (l : Lexeme) (rest : Text) → one_symbol (one_sign c) t ≡ Some (l, rest) → Front IsSymbol (c ∷ t) l rest
one_sound c t l rest h = by (one_sign c) refl h
  where
    by : (o : Option Symbol) → one_sign c ≡ o → one_symbol o t ≡ Some (l, rest) → Front IsSymbol (c ∷ t) l rest
    by None e h = cc
    by (Some s) e h = front_is IsSymbol (c ∷ t) (symbol s, t) l rest h (c ∷ [], refl, one c s e)

pub symbol_sound : Sound read_symbol IsSymbol
symbol_sound [] l rest h = cc
symbol_sound (c ∷ []) l rest h = one_sound c [] l rest h
symbol_sound (c ∷ d ∷ t) l rest h = by (two_signs c d) refl h
  where
    by : (o : Option Symbol) → two_signs c d ≡ o → two_symbol o c d t ≡ Some (l, rest) → Front IsSymbol (c ∷ d ∷ t) l rest
    by None e h = one_sound c (d ∷ t) l rest h
    by (Some s) e h = front_is IsSymbol (c ∷ d ∷ t) (symbol s, t) l rest h (c ∷ d ∷ [], refl, two c d s e)

one_longest : (c : ℕ) (s : Symbol) → one_sign c ≡ Some s → (z : Text) → Reaches (read_symbol (c ∷ z)) (symbol s) z
one_longest c s e [] = subst (λ o. Reaches (one_symbol o []) (symbol s) []) (sym e) (inr refl)
one_longest c s e (d ∷ z) = by (two_signs c d)
  where
    by : (o : Option Symbol) → Reaches (two_symbol o c d z) (symbol s) (d ∷ z)
    by None = subst (λ o. Reaches (one_symbol o (d ∷ z)) (symbol s) (d ∷ z)) (sym e) (inr refl)
    by (Some r) = inl (omega arith)

pub symbol_longest : Longest read_symbol IsSymbol
symbol_longest x z l (one c s e) = one_longest c s e z
symbol_longest x z l (two c d s e) = subst (λ o. Reaches (two_symbol o c d z) (symbol s) z) (sym e) (inr refl)

-- ---- tests that tell the sorts apart

-- a name, or a string with or without a prefix
abbrev pub begins_name : Text → Bool
begins_name [] = false
begins_name (c ∷ t) = is_letter c || is_quote c

abbrev pub begins_quoted : Text → Bool
begins_quoted [] = false
begins_quoted (c ∷ t) = is_quote c

abbrev pub begins_raw : Text → Bool
begins_raw [] = false
begins_raw (c ∷ t) = is_quote c || begins_quoted t

abbrev pub begins_string : Text → Bool
begins_string [] = false
begins_string (c ∷ t) = is_quote c || begins_raw t

abbrev pub begins_number : Text → Bool
begins_number t = begins_with_digit t || begins_fraction t

abbrev pub begins_comment : ℕ → Text → Bool
begins_comment c [] = false
begins_comment c (d ∷ t) = c == 0x2F && d == 0x2F

abbrev pub begins_blank : Text → Bool
begins_blank [] = false
begins_blank (c ∷ t) = is_white c || begins_comment c t

pub not_true : (b : Bool) → not b ≡ true → b ≡ false
not_true true e = cc
not_true false e = refl

pub or_right : (a b : Bool) → b ≡ true → (a || b) ≡ true
or_right true b e = refl
or_right false b e = e

pub or_both : (a b : Bool) → a ≡ false → b ≡ false → (a || b) ≡ false
or_both true b e k = cc
or_both false b e k = k

-- what holds of none of these characters does not hold of one of them
pub among_not : (p : ℕ → Bool) (c : ℕ) (cs : Text) → is_among c cs ≡ true → list_all (λ d. not (p d)) cs ≡ true → p c ≡ false
among_not p c [] h k = cc
among_not p c (d ∷ ds) h k = by (c == d) refl h (λ m. among_not p c ds m k'.1)
  where
    k' : (not (p d) ≡ true) × (list_all (λ d. not (p d)) ds ≡ true)
    k' = both (not (p d)) (list_all (λ d. not (p d)) ds) k

    by : (b : Bool) → (c == d) ≡ b → (b || is_among c ds) ≡ true → (is_among c ds ≡ true → p c ≡ false) → p c ≡ false
    by true e h go = ap p (eqb-true c d e) ∙ not_true (p d) k'.0
    by false e h go = go h

-- and what holds of no listed text does not hold of one
listed_not : (p : Text → Bool) (x : Text) (s : Symbol) (table : List (String × Symbol)) → listed table x ≡ Some s
    → list_all (λ e. not (p (codes e.0))) table ≡ true → p x ≡ false
listed_not p x s [] h k = cc
listed_not p x s (e ∷ es) h k = by (spells e.0 x) refl h (λ m. listed_not p x s es m k'.1)
  where
    k' : (not (p (codes e.0)) ≡ true) × (list_all (λ e. not (p (codes e.0))) es ≡ true)
    k' = both (not (p (codes e.0))) (list_all (λ e. not (p (codes e.0))) es) k

    by : (b : Bool) → spells e.0 x ≡ b → (if b then Some e.1 else listed es x) ≡ Some s → (listed es x ≡ Some s → p x ≡ false) → p x ≡ false
    by true q h go = ap p (same_text x (codes e.0) (sym q)) ∙ not_true (p (codes e.0)) k'.0
    by false q h go = go h

pub symbol_not : (p : Text → Bool) → list_all (λ e. not (p (codes e.0))) signs_of_one ≡ true → list_all (λ e. not (p (codes e.0))) signs_of_two ≡ true
    → (x : Text) (l : Lexeme) → IsSymbol x l → p x ≡ false
symbol_not p a b x l (one c s e) = listed_not p (c ∷ []) s signs_of_one e a
symbol_not p a b x l (two c d s e) = listed_not p (c ∷ d ∷ []) s signs_of_two e b

pub symbol_no_name : (x : Text) (l : Lexeme) → IsSymbol x l → begins_name x ≡ false
symbol_no_name = symbol_not begins_name refl refl

pub symbol_no_number : (x : Text) (l : Lexeme) → IsSymbol x l → begins_number x ≡ false
symbol_no_number = symbol_not begins_number refl refl

pub symbol_no_blank : (x : Text) (l : Lexeme) → IsSymbol x l → begins_blank x ≡ false
symbol_no_blank = symbol_not begins_blank refl refl

pub blank_is : (x : Text) (l : Lexeme) → IsBlank x l → begins_blank x ≡ true
blank_is x l (white c e) = ap (λ b. b || begins_comment c []) e
blank_is x l (comment cs h) = refl

pub blank_no_name : (x : Text) (l : Lexeme) → IsBlank x l → begins_name x ≡ false
blank_no_name x l (white c e) = among_not (λ d. is_letter d || is_quote d) c (0x20 ∷ 0x09 ∷ 0x0A ∷ 0x0D ∷ 0x0C ∷ []) e refl
blank_no_name x l (comment cs h) = refl

pub blank_no_number : (x : Text) (l : Lexeme) → IsBlank x l → begins_number x ≡ false
blank_no_number x l (white c e) = ap (λ b. b || false) (among_not is_decimal c (0x20 ∷ 0x09 ∷ 0x0A ∷ 0x0D ∷ 0x0C ∷ []) e refl)
blank_no_number x l (comment cs h) = refl

pub word_is : (x : Text) (l : Lexeme) → IsWord x l → begins_name x ≡ true
word_is x l (a_word c cs e h) = ap (λ b. b || is_quote c) e

letter_no_quote : (c : ℕ) → is_letter c ≡ true → is_quote c ≡ false
letter_no_quote c e = by (is_quote c) refl
  where
    by : (b : Bool) → is_quote c ≡ b → b ≡ false
    by false k = refl
    by true k = let n = among_not is_letter c (0x22 ∷ 0x27 ∷ []) k refl in cc

part_no_quote : (c : ℕ) → is_of_word c ≡ true → is_quote c ≡ false
part_no_quote c e = by (is_quote c) refl
  where
    by : (b : Bool) → is_quote c ≡ b → b ≡ false
    by false k = refl
    by true k = let n = among_not is_of_word c (0x22 ∷ 0x27 ∷ []) k refl in cc

parts_no_quoted : (cs : Text) → list_all is_of_word cs ≡ true → begins_quoted cs ≡ false
parts_no_quoted [] h = refl
parts_no_quoted (c ∷ cs) h = part_no_quote c (both (is_of_word c) (list_all is_of_word cs) h).0

parts_no_raw : (cs : Text) → list_all is_of_word cs ≡ true → begins_raw cs ≡ false
parts_no_raw [] h = refl
parts_no_raw (c ∷ cs) h =
    let h' = both (is_of_word c) (list_all is_of_word cs) h in
    or_both (is_quote c) (begins_quoted cs) (part_no_quote c h'.0) (parts_no_quoted cs h'.1)

pub word_no_string : (x : Text) (l : Lexeme) → IsWord x l → begins_string x ≡ false
word_no_string x l (a_word c cs e h) = or_both (is_quote c) (begins_raw cs) (letter_no_quote c e) (parts_no_raw cs h)

-- a digit begins no name
pub digit_no_name : (c : ℕ) → is_decimal c ≡ true → (is_letter c || is_quote c) ≡ false
digit_no_name c e = by (is_quote c) refl
  where
    letter : is_letter c ≡ false
    letter = grind (arith, nat_tests, e)

    by : (b : Bool) → is_quote c ≡ b → (is_letter c || b) ≡ false
    by false k = or_both (is_letter c) false letter refl
    by true k = let n = among_not is_decimal c (0x22 ∷ 0x27 ∷ []) k refl in cc
