-- The longest lexeme at the front of a text is what is read.
use Rattle.std.proofs.Common.{◌≡◌, ◌≤◌, ◌∙◌, Bool, true, false, [], ◌∷◌, length, Some, None, refl, sym, ap, subst, inl, inr, arith}
use Rattle.std.proofs.lemmas.List.{length-append}
use Rattle.cel_read.specs.Lexemes.{Text, Lexeme, IsBlank, IsWord, IsNumber, IsStringLiteral, IsSymbol, IsLexeme}
use Rattle.cel_read.specs.Tokens.{IsNext, NoneBegins}
use Rattle.cel_read.specs.Internal.Reading.{Found, longer, read_literal, read_word, read_number, read_blank, read_symbol, read_lexeme}
use Rattle.cel_read.proofs.Readers.{Sound, Reaches, Longest, Disjoint, Either, longer_sound, longer_longest}
use Rattle.cel_read.proofs.PlainLemmas.{blank_sound, blank_longest, word_sound, word_longest, symbol_sound, symbol_longest, begins_name, begins_string, begins_number, begins_blank, symbol_no_name, symbol_no_number, symbol_no_blank, blank_is, blank_no_name, blank_no_number, word_is, word_no_string}
use Rattle.cel_read.proofs.NumberLemmas.{number_sound, number_longest, number_is, number_no_name}
use Rattle.cel_read.proofs.StringLemmas.{literal_sound, literal_longest, literal_is, literal_name}

-- ---- no text is of two sorts

apart : (p : Text → Bool) (P Q : Text → Lexeme → Type 0) → ((x : Text) (l : Lexeme) → P x l → p x ≡ true) → ((x : Text) (l : Lexeme) → Q x l → p x ≡ false) → Disjoint P Q
apart p P Q yes_it not_it x l m a b = let e = yes_it x l a in let n = not_it x m b in cc

neither : (p : Text → Bool) (P Q : Text → Lexeme → Type 0) → ((x : Text) (l : Lexeme) → P x l → p x ≡ false) → ((x : Text) (l : Lexeme) → Q x l → p x ≡ false)
    → (x : Text) (l : Lexeme) → Either P Q x l → p x ≡ false
neither p P Q f g x l (inl a) = f x l a
neither p P Q f g x l (inr b) = g x l b

abbrev Low : Text → Lexeme → Type 0
Low = Either IsBlank IsSymbol

abbrev Numeric : Text → Lexeme → Type 0
Numeric = Either IsNumber Low

abbrev Wordy : Text → Lexeme → Type 0
Wordy = Either IsWord Numeric

low_no_name : (x : Text) (l : Lexeme) → Low x l → begins_name x ≡ false
low_no_name = neither begins_name IsBlank IsSymbol blank_no_name symbol_no_name

numeric_no_name : (x : Text) (l : Lexeme) → Numeric x l → begins_name x ≡ false
numeric_no_name = neither begins_name IsNumber Low (λ x l h. number_no_name x (number_is x l h)) low_no_name

blank_symbol : Disjoint IsBlank IsSymbol
blank_symbol = apart begins_blank IsBlank IsSymbol blank_is symbol_no_blank

number_low : Disjoint IsNumber Low
number_low = apart begins_number IsNumber Low number_is (neither begins_number IsBlank IsSymbol blank_no_number symbol_no_number)

word_numeric : Disjoint IsWord Numeric
word_numeric = apart begins_name IsWord Numeric word_is numeric_no_name

literal_wordy : Disjoint IsStringLiteral Wordy
literal_wordy x l m a (inl b) = apart begins_string IsStringLiteral IsWord literal_is word_no_string x l m a b
literal_wordy x l m a (inr b) = apart begins_name IsStringLiteral Numeric literal_name numeric_no_name x l m a b

-- ---- one reader

abbrev read_low : Text → Found
read_low t = longer (read_blank t) (read_symbol t)

abbrev read_numeric : Text → Found
read_numeric t = longer (read_number t) (read_low t)

abbrev read_wordy : Text → Found
read_wordy t = longer (read_word t) (read_numeric t)

low_sound : Sound read_low Low
low_sound = longer_sound read_blank read_symbol IsBlank IsSymbol blank_sound symbol_sound

low_longest : Longest read_low Low
low_longest = longer_longest read_blank read_symbol IsBlank IsSymbol blank_sound blank_symbol blank_longest symbol_longest

numeric_sound : Sound read_numeric Numeric
numeric_sound = longer_sound read_number read_low IsNumber Low number_sound low_sound

numeric_longest : Longest read_numeric Numeric
numeric_longest = longer_longest read_number read_low IsNumber Low number_sound number_low number_longest low_longest

wordy_sound : Sound read_wordy Wordy
wordy_sound = longer_sound read_word read_numeric IsWord Numeric word_sound numeric_sound

wordy_longest : Longest read_wordy Wordy
wordy_longest = longer_longest read_word read_numeric IsWord Numeric word_sound word_numeric word_longest numeric_longest

lexeme_sound : Sound read_lexeme IsLexeme
lexeme_sound = longer_sound read_literal read_wordy IsStringLiteral Wordy literal_sound wordy_sound

lexeme_longest : Longest read_lexeme IsLexeme
lexeme_longest = longer_longest read_literal read_wordy IsStringLiteral Wordy literal_sound literal_wordy literal_longest wordy_longest

-- ---- what is read is the longest lexeme, and the other way round

reached : (f : Lexeme × Text) (l : Lexeme) (z : Text) → Reaches (Some f) l z → length f.1 ≤ length z
reached f l z (inl s) = omega (arith, s)
reached f l z (inr e) = omega (arith, ap (λ w. length w.1) e)

pub lexeme_some : (x : Text) (l : Lexeme) → IsLexeme x l → 1 ≤ length x
lexeme_some [] l h = let r : Reaches None l [] = lexeme_longest [] [] l h in absurd r
lexeme_some (c ∷ x) l h = omega arith

pub next_read : (t : Text) (l : Lexeme) (rest : Text) → read_lexeme t ≡ Some (l, rest) → IsNext t l rest
next_read t l rest h =
    let f = lexeme_sound t l rest h in
    record {
      spelling = f.0;
      cut = f.1;
      lexeme = f.2;
      longest = λ x y m e k.
          let r : Reaches (Some (l, rest)) m y = subst (λ o. Reaches o m y) (ap read_lexeme (sym e) ∙ h) (lexeme_longest x y m k) in
          omega (arith, reached (l, rest) m y r, length-append x y, length-append f.0 rest, ap length e, ap length f.1);
    }

pub none_read : (t : Text) → read_lexeme t ≡ None → NoneBegins t
none_read t h x y l e k = let r : Reaches None l y = subst (λ o. Reaches o l y) (ap read_lexeme (sym e) ∙ h) (lexeme_longest x y l k) in r

pub read_next : (t : Text) (l : Lexeme) (rest : Text) → IsNext t l rest → read_lexeme t ≡ Some (l, rest)
read_next t l rest n = by (read_lexeme t) refl (subst (λ u. Reaches (read_lexeme u) l rest) (sym n.cut) (lexeme_longest n.spelling rest l n.lexeme))
  where
    by : (o : Found) → read_lexeme t ≡ o → Reaches o l rest → o ≡ Some (l, rest)
    by None e r = absurd r
    by (Some f) e (inr q) = ap Some q
    by (Some f) e (inl s) =
        let g = lexeme_sound t f.0 f.1 e in
        let m = n.longest g.0 f.1 f.0 g.1 g.2 in
        absurd (omega (arith, s, m, length-append g.0 f.1, length-append n.spelling rest, ap length g.1, ap length n.cut))
