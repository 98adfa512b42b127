-- Strings: what is read, and that it is as long as can be.
use Rattle.std.proofs.Common.{◌≡◌, ◌<◌, ◌≤◌, ◌⊎◌, ◌∙◌, ℕ, zero, suc, Bool, true, false, not, ◌&&◌, ◌||◌, ◌==◌, nat_lt, List, [], ◌∷◌, ◌++◌, length, take, drop, Option, Some, None, option_map, refl, sym, ap, subst, inl, inr, arith, append_assoc, if◌then◌else◌}
use Rattle.std.specs.List.{list_all}
use Rattle.std.specs.Str.Parse.{digits_value}
use Rattle.std.proofs.lemmas.Bool.{eqb-true, eq-eqb}
use Rattle.std.proofs.lemmas.Bool.Decides.{nat_tests}
use Rattle.std.proofs.lemmas.List.{length-append, take-append-drop, length-take-le}
use Rattle.std.proofs.Math.Seq.{take-append_seam, drop-append_seam}
use Rattle.cel_read.specs.Lexemes.{Text, Lexeme, string, bytes, are_digits, Escape, stands_for, in_hexadecimal, in_octal, escape_of, IsEscape, a_sign, a_hexadecimal, an_octal, Quoting, is_letter, is_quote, closing_mark, after_one_quote, after_three_quotes, after_mark, is_plain, IsPart, a_character, an_escape, IsBody, closed, a_part, IsQuoted, in_quotes, in_three_quotes, IsString, a_string, a_raw_string, IsStringLiteral, a_text, some_bytes, ◌∈◌}
use Rattle.cel_read.specs.Internal.Reading.{Part, Body, read_digits, read_escaped, read_escape, read_part, with_value, then_body, body_turn, read_body, in_lines, on_a_line, whole_body, read_threefold, read_single, or_body, read_quoted, read_string, text_found, bytes_found, read_literal}
use Rattle.cel_read.proofs.RunLemmas.{both}
use Rattle.cel_read.proofs.Readers.{Front, Sound, Reaches, Longest, front_is}
use Rattle.cel_read.proofs.PlainLemmas.{not_true, or_right, among_not, begins_name, begins_quoted, begins_raw, begins_string}

-- ---- escapes

abbrev PartFront : (Text → ℕ → Type 0) → Text → ℕ → Text → Type 0
PartFront P t v rest = (x : Text) × (t ≡ x ++ rest) × P x v

abbrev with : ℕ → Text → ℕ × Text
with v rest = (v, rest)

part_is : (P : Text → ℕ → Type 0) (t : Text) (w : ℕ × Text) (v : ℕ) (rest : Text) → Some w ≡ Some (v, rest) → PartFront P t w.0 w.1 → PartFront P t v rest
part_is P t w v rest e f = let q : w ≡ (v, rest) = cc in subst (λ u. PartFront P t u.0 u.1) q f

abbrev Digits : ℕ → ℕ → Text → ℕ → Type 0
Digits radix n ds v = (length ds ≡ n) × (are_digits radix ds ≡ true) × (digits_value radix ds ≡ v)

digits_read : (radix n : ℕ) (ds z : Text) → length ds ≡ n → are_digits radix ds ≡ true → read_digits radix n (ds ++ z) ≡ Some (digits_value radix ds, z)
digits_read radix n ds z l k =
    let t = ds ++ z in
    let front : take n t ≡ ds = ap (λ m. take m t) (sym l) ∙ take-append_seam ds z in
    let back : drop n t ≡ z = ap (λ m. drop m t) (sym l) ∙ drop-append_seam ds z in
    let sum = length-append ds z in
    let enough : nat_lt (length t) n ≡ false = grind (arith, nat_tests, sum, l) in
    let value = Some (with (digits_value radix (take n t)) (drop n t)) in
    ap (λ b. if not b && are_digits radix (take n t) then value else None) enough
    ∙ (ap (λ b. if b then value else None) (ap (are_digits radix) front ∙ k) ∙ (ap (λ ds. Some (with (digits_value radix ds) (drop n t))) front ∙ ap (λ z. Some (with (digits_value radix ds) z)) back))

digits_sound : (radix n : ℕ) (t : Text) (v : ℕ) (rest : Text) → read_digits radix n t ≡ Some (v, rest) → PartFront (Digits radix n) t v rest
digits_sound radix n t v rest h = by (not (nat_lt (length t) n) && are_digits radix (take n t)) refl h
  where
    w : ℕ × Text
    w = (digits_value radix (take n t), drop n t)

    by : (b : Bool) → (not (nat_lt (length t) n) && are_digits radix (take n t)) ≡ b → (if b then Some w else None) ≡ Some (v, rest) → PartFront (Digits radix n) t v rest
    by false e h = cc
    by true e h =
        let e' = both (not (nat_lt (length t) n)) (are_digits radix (take n t)) e in
        let m = e'.0 in
        let enough : n ≤ length t = grind (arith, nat_tests, m) in
        part_is (Digits radix n) t w v rest h (take n t, sym (take-append-drop n t), (length-take-le n t enough, e'.1, refl))

escape_read : (e : Text) (v : ℕ) (z : Text) → IsEscape e v → read_escape (e ++ z) ≡ Some (v, z)
escape_read e v z (a_sign c w h) = ap (λ o. read_escaped o c z) h
escape_read e v z (a_hexadecimal c n ds h l k) = ap (λ o. read_escaped o c (ds ++ z)) h ∙ digits_read 16 n ds z l k
escape_read e v z (an_octal c ds h l k) = let n : length (c ∷ ds) ≡ 3 = omega (arith, l) in ap (λ o. read_escaped o c (ds ++ z)) h ∙ digits_read 8 3 (c ∷ ds) z n k

octal_sound : (c : ℕ) (t : Text) (v : ℕ) (rest : Text) → escape_of c ≡ Some in_octal → PartFront (Digits 8 3) (c ∷ t) v rest → PartFront IsEscape (c ∷ t) v rest
octal_sound c t v rest e ([], q, (l, k, w)) = absurd (omega (arith, l))
octal_sound c t v rest e (d ∷ ds, q, (l, k, w)) =
    let same : c ≡ d = cc in
    let n : length ds ≡ 2 = omega (arith, l) in
    (d ∷ ds, q, subst (IsEscape (d ∷ ds)) w (an_octal d ds (ap escape_of (sym same) ∙ e) n k))

escape_sound : (t : Text) (v : ℕ) (rest : Text) → read_escape t ≡ Some (v, rest) → PartFront IsEscape t v rest
escape_sound [] v rest h = cc
escape_sound (c ∷ t) v rest h = by (escape_of c) refl h
  where
    by : (o : Option Escape) → escape_of c ≡ o → read_escaped o c t ≡ Some (v, rest) → PartFront IsEscape (c ∷ t) v rest
    by None e h = cc
    by (Some (stands_for w)) e h = part_is IsEscape (c ∷ t) (w, t) v rest h (c ∷ [], refl, a_sign c w e)
    by (Some (in_hexadecimal n)) e h =
        let d = digits_sound 16 n t v rest h in
        (c ∷ d.0, ap (λ u. c ∷ u) d.1, subst (IsEscape (c ∷ d.0)) d.2.2 (a_hexadecimal c n d.0 e d.2.0 d.2.1))
    by (Some in_octal) e h = octal_sound c t v rest e (digits_sound 8 3 (c ∷ t) v rest h)

-- ---- what stands between quotes

backslash_read : (q : Quoting) (t : Text) → q.raw ≡ false → read_part q (0x5C ∷ t) ≡ read_escape t
backslash_read q t r =
    let plain = Some (with 0x5C t) in
    ap (λ b. if (b || false) && (q.threefold || true) then plain else if not b then read_escape t else None) r

part_read : (q : Quoting) (x : Text) (v : ℕ) (z : Text) → IsPart q x v → read_part q (x ++ z) ≡ Some (v, z)
part_read q x v z (a_character c h) = ap (λ b. if b then Some (with c z) else if c == 0x5C && not q.raw then read_escape z else None) h
part_read q x v z (an_escape e w r h) = backslash_read q (e ++ z) r ∙ escape_read e w z h

part_sound : (q : Quoting) (t : Text) (v : ℕ) (rest : Text) → read_part q t ≡ Some (v, rest) → PartFront (IsPart q) t v rest
part_sound q [] v rest h = cc
part_sound q (c ∷ t) v rest h = by (is_plain q c) refl h
  where
    escaped : (b : Bool) → (c == 0x5C && not q.raw) ≡ b → (if b then read_escape t else None) ≡ Some (v, rest) → PartFront (IsPart q) (c ∷ t) v rest
    escaped false e h = cc
    escaped true e h =
        let e' = both (c == 0x5C) (not q.raw) e in
        let here : c ≡ 0x5C = eqb-true c 0x5C e'.0 in
        let d = escape_sound t v rest h in
        (0x5C ∷ d.0, ap (λ k. k ∷ t) here ∙ ap (λ u. 0x5C ∷ u) d.1, an_escape d.0 v (not_true q.raw e'.1) d.2)

    by : (b : Bool) → is_plain q c ≡ b → (if b then Some (with c t) else if c == 0x5C && not q.raw then read_escape t else None) ≡ Some (v, rest)
        → PartFront (IsPart q) (c ∷ t) v rest
    by true e h = part_is (IsPart q) (c ∷ t) (c, t) v rest h (c ∷ [], refl, a_character c e)
    by false e h = escaped (c == 0x5C && not q.raw) refl h

-- ---- the closing mark

abbrev mark_of : Bool → ℕ → Text
mark_of threefold k = if threefold then k ∷ k ∷ k ∷ [] else k ∷ []

abbrev after : Bool → ℕ → Text → Option Text
after threefold k t = if threefold then after_three_quotes k t else after_one_quote k t

same_char : (k : ℕ) → (k == k) ≡ true
same_char k = eq-eqb k k refl

mark_read : (threefold : Bool) (k : ℕ) (z : Text) → after threefold k (mark_of threefold k ++ z) ≡ Some z
mark_read true k z = ap (λ b. if b && (b && b) then Some z else None) (same_char k)
mark_read false k z = ap (λ b. if b then Some z else None) (same_char k)

mark_is : (threefold : Bool) (k : ℕ) (t rest : Text) → after threefold k t ≡ Some rest → t ≡ mark_of threefold k ++ rest
mark_is true k [] rest h = cc
mark_is true k (a ∷ []) rest h = cc
mark_is true k (a ∷ b ∷ []) rest h = cc
mark_is true k (a ∷ b ∷ c ∷ t) rest h = by (a == k && (b == k && c == k)) refl h
  where
    by : (m : Bool) → (a == k && (b == k && c == k)) ≡ m → (if m then Some t else None) ≡ Some rest → a ∷ b ∷ c ∷ t ≡ k ∷ k ∷ k ∷ rest
    by false e h = cc
    by true e h =
        let e' = both (a == k) (b == k && c == k) e in
        let e'' = both (b == k) (c == k) e'.1 in
        let x = eqb-true a k e'.0 in
        let y = eqb-true b k e''.0 in
        let w = eqb-true c k e''.1 in
        cc
mark_is false k [] rest h = cc
mark_is false k (a ∷ t) rest h = by (a == k) refl h
  where
    by : (m : Bool) → (a == k) ≡ m → (if m then Some t else None) ≡ Some rest → a ∷ t ≡ k ∷ rest
    by false e h = cc
    by true e h = let x = eqb-true a k e in cc

-- whether a long enough text begins with the mark does not hang on what follows it
mark_over : (threefold : Bool) (k : ℕ) (x z : Text) → length (mark_of threefold k) ≤ length x
    → after threefold k (x ++ z) ≡ option_map (λ r. r ++ z) (after threefold k x)
mark_over true k [] z n = absurd (omega (arith, n))
mark_over true k (a ∷ []) z n = absurd (omega (arith, n))
mark_over true k (a ∷ b ∷ []) z n = absurd (omega (arith, n))
mark_over true k (a ∷ b ∷ c ∷ x) z n = by (a == k && (b == k && c == k))
  where
    by : (m : Bool) → (if m then Some (x ++ z) else None) ≡ option_map (λ r. r ++ z) (if m then Some x else None)
    by true = refl
    by false = refl
mark_over false k [] z n = absurd (omega (arith, n))
mark_over false k (a ∷ x) z n = by (a == k)
  where
    by : (m : Bool) → (if m then Some (x ++ z) else None) ≡ option_map (λ r. r ++ z) (if m then Some x else None)
    by true = refl
    by false = refl

mapped_none : (z : Text) (o : Option Text) → option_map (λ r. r ++ z) o ≡ None → o ≡ None
mapped_none z None h = refl
mapped_none z (Some r) h = cc

-- ---- bodies

body_length : (q : Quoting) (x : Text) (vs : List ℕ) → IsBody q x vs → length (closing_mark q) ≤ length x
body_length q x vs closed = omega arith
body_length q x vs (a_part y w v us h p b) = omega (arith, length-append y w, body_length q w us b)

part_length : (q : Quoting) (x : Text) (v : ℕ) → IsPart q x v → 1 ≤ length x
part_length q x v (a_character c h) = omega arith
part_length q x v (an_escape e w r h) = omega arith

body_read : (q : Quoting) (x : Text) (vs : List ℕ) → IsBody q x vs → (z : Text) (n : ℕ) → length (x ++ z) < n → read_body n q (x ++ z) ≡ Some (vs, z)
body_read q x vs closed z zero l = absurd (omega (arith, l))
body_read q x vs closed z (suc n) l = ap (body_turn (read_body n q) q (closing_mark q ++ z)) (mark_read q.threefold q.quote z)
body_read q x vs (a_part y w v us h p b) z zero l = absurd (omega (arith, l))
body_read q x vs (a_part y w v us h p b) z (suc n) l =
    let t = (y ++ w) ++ z in
    let go = read_body n q in
    let seam : t ≡ y ++ (w ++ z) = append_assoc y w z in
    let long : length (closing_mark q) ≤ length (y ++ w) = omega (arith, length-append y w, body_length q w us b) in
    let unclosed_yet : after_mark q t ≡ None = mark_over q.threefold q.quote (y ++ w) z long ∙ ap (option_map (λ r. r ++ z)) h in
    let less : length (w ++ z) < n = omega (arith, l, ap length seam, length-append y (w ++ z), part_length q y v p) in
    ap (body_turn go q t) unclosed_yet
    ∙ (ap (then_body go) (ap (read_part q) seam ∙ part_read q y v (w ++ z) p) ∙ ap (option_map (with_value v)) (body_read q w us b z n less))

abbrev BodyFront : (Text → List ℕ → Type 0) → Text → List ℕ → Text → Type 0
BodyFront P t vs rest = (x : Text) × (t ≡ x ++ rest) × P x vs

body_is : (P : Text → List ℕ → Type 0) (t : Text) (w : List ℕ × Text) (vs : List ℕ) (rest : Text) → Some w ≡ Some (vs, rest) → BodyFront P t w.0 w.1 → BodyFront P t vs rest
body_is P t w vs rest e f = let q : w ≡ (vs, rest) = cc in subst (λ u. BodyFront P t u.0 u.1) q f

module _ (q : Quoting) (go : Text → Body) (inner : (t : Text) (vs : List ℕ) (rest : Text) → go t ≡ Some (vs, rest) → BodyFront (IsBody q) t vs rest) where
  more_sound : (t u : Text) (v : ℕ) (vs : List ℕ) (rest : Text) → after_mark q t ≡ None → PartFront (IsPart q) t v u → option_map (with_value v) (go u) ≡ Some (vs, rest)
      → BodyFront (IsBody q) t vs rest
  more_sound t u v vs rest unclosed_yet p h = by (go u) refl h
    where
      by : (o : Body) → go u ≡ o → option_map (with_value v) o ≡ Some (vs, rest) → BodyFront (IsBody q) t vs rest
      by None e h = cc
      by (Some w) e h =
          let b = inner u w.0 w.1 e in
          let x = p.0 ++ b.0 in
          let seam : t ≡ x ++ w.1 = p.1 ∙ (ap (λ k. p.0 ++ k) b.1 ∙ sym (append_assoc p.0 b.0 w.1)) in
          let long : length (closing_mark q) ≤ length x = omega (arith, length-append p.0 b.0, body_length q b.0 w.0 b.2) in
          let unclosed : after_mark q x ≡ None =
          mapped_none w.1 (after_mark q x) (sym (mark_over q.threefold q.quote x w.1 long) ∙ (ap (after_mark q) (sym seam) ∙ unclosed_yet)) in
          body_is (IsBody q) t (v ∷ w.0, w.1) vs rest h (x, seam, a_part p.0 b.0 v w.0 unclosed p.2 b.2)

  turn_sound : (t : Text) (vs : List ℕ) (rest : Text) → body_turn go q t (after_mark q t) ≡ Some (vs, rest) → BodyFront (IsBody q) t vs rest
  turn_sound t vs rest h = by (after_mark q t) refl h
    where
      part : after_mark q t ≡ None → (o : Part) → read_part q t ≡ o → then_body go o ≡ Some (vs, rest) → BodyFront (IsBody q) t vs rest
      part unclosed_yet None e h = cc
      part unclosed_yet (Some w) e h = more_sound t w.1 w.0 vs rest unclosed_yet (part_sound q t w.0 w.1 e) h

      by : (o : Option Text) → after_mark q t ≡ o → body_turn go q t o ≡ Some (vs, rest) → BodyFront (IsBody q) t vs rest
      by (Some r) e h = body_is (IsBody q) t ([], r) vs rest h (closing_mark q, mark_is q.threefold q.quote t r e, closed)
      by None e h = part e (read_part q t) refl h

body_sound : (n : ℕ) (q : Quoting) (t : Text) (vs : List ℕ) (rest : Text) → read_body n q t ≡ Some (vs, rest) → BodyFront (IsBody q) t vs rest
body_sound zero q t vs rest h = cc
body_sound (suc n) q t vs rest h = turn_sound q (read_body n q) (body_sound n q) t vs rest h

whole_read : (q : Quoting) (x : Text) (vs : List ℕ) (z : Text) → IsBody q x vs → whole_body q (x ++ z) ≡ Some (vs, z)
whole_read q x vs z b = body_read q x vs b z (suc (length (x ++ z))) (omega arith)

-- ---- quotes

threefold_sound : (raw : Bool) (t : Text) (vs : List ℕ) (rest : Text) → read_threefold raw t ≡ Some (vs, rest) → BodyFront (IsQuoted raw) t vs rest
threefold_sound raw [] vs rest h = cc
threefold_sound raw (a ∷ []) vs rest h = cc
threefold_sound raw (a ∷ b ∷ []) vs rest h = cc
threefold_sound raw (a ∷ b ∷ c ∷ t) vs rest h = by (is_quote a && (b == a && c == a)) refl h
  where
    by : (m : Bool) → (is_quote a && (b == a && c == a)) ≡ m → (if m then whole_body (in_lines raw a) t else None) ≡ Some (vs, rest)
        → BodyFront (IsQuoted raw) (a ∷ b ∷ c ∷ t) vs rest
    by false e h = cc
    by true e h =
        let e' = both (is_quote a) (b == a && c == a) e in
        let e'' = both (b == a) (c == a) e'.1 in
        let f = body_sound (suc (length t)) (in_lines raw a) t vs rest h in
        let same : a ∷ b ∷ c ∷ t ≡ a ∷ a ∷ a ∷ t = ap (λ k. a ∷ k ∷ c ∷ t) (eqb-true b a e''.0) ∙ ap (λ k. a ∷ a ∷ k ∷ t) (eqb-true c a e''.1) in
        (a ∷ a ∷ a ∷ f.0, same ∙ ap (λ u. a ∷ a ∷ a ∷ u) f.1, in_three_quotes a f.0 vs e'.0 f.2)

single_sound : (raw : Bool) (t : Text) (vs : List ℕ) (rest : Text) → read_single raw t ≡ Some (vs, rest) → BodyFront (IsQuoted raw) t vs rest
single_sound raw [] vs rest h = cc
single_sound raw (a ∷ t) vs rest h = by (is_quote a) refl h
  where
    by : (m : Bool) → is_quote a ≡ m → (if m then whole_body (on_a_line raw a) t else None) ≡ Some (vs, rest) → BodyFront (IsQuoted raw) (a ∷ t) vs rest
    by false e h = cc
    by true e h = let f = body_sound (suc (length t)) (on_a_line raw a) t vs rest h in (a ∷ f.0, ap (λ u. a ∷ u) f.1, in_quotes a f.0 vs e f.2)

quoted_sound : (raw : Bool) (t : Text) (vs : List ℕ) (rest : Text) → read_quoted raw t ≡ Some (vs, rest) → BodyFront (IsQuoted raw) t vs rest
quoted_sound raw t vs rest h = by (read_threefold raw t) refl h
  where
    by : (o : Body) → read_threefold raw t ≡ o → or_body o (read_single raw t) ≡ Some (vs, rest) → BodyFront (IsQuoted raw) t vs rest
    by None e h = single_sound raw t vs rest h
    by (Some w) e h = body_is (IsQuoted raw) t w vs rest h (threefold_sound raw t w.0 w.1 e)

-- further than a string, or it
abbrev BodyReaches : Body → List ℕ → Text → Type 0
BodyReaches None vs z = ⊥
BodyReaches (Some w) vs z = (length w.1 < length z) ⊎ (w ≡ (vs, z))

threefold_read : (raw : Bool) (q : ℕ) (x : Text) (vs : List ℕ) (z : Text) → is_quote q ≡ true → IsBody (in_lines raw q) x vs
    → read_threefold raw (q ∷ q ∷ q ∷ (x ++ z)) ≡ Some (vs, z)
threefold_read raw q x vs z e b =
    let whole = whole_body (in_lines raw q) (x ++ z) in
    ap (λ m. if m && (q == q && q == q) then whole else None) e ∙ (ap (λ m. if m && m then whole else None) (same_char q) ∙ whole_read (in_lines raw q) x vs z b)

single_read : (raw : Bool) (q : ℕ) (x : Text) (vs : List ℕ) (z : Text) → is_quote q ≡ true → IsBody (on_a_line raw q) x vs
    → read_single raw (q ∷ (x ++ z)) ≡ Some (vs, z)
single_read raw q x vs z e b = ap (λ m. if m then whole_body (on_a_line raw q) (x ++ z) else None) e ∙ whole_read (on_a_line raw q) x vs z b

-- three quotes are no string in one that has parts
no_third : (raw : Bool) (q : ℕ) (x z : Text) → 1 ≤ length x → after_one_quote q x ≡ None → read_threefold raw (q ∷ (x ++ z)) ≡ None
no_third raw q [] z n h = absurd (omega (arith, n))
no_third raw q (c ∷ x) z n h = by (c == q) refl h
  where
    third : (c == q) ≡ false → (u : Text) → read_threefold raw (q ∷ c ∷ u) ≡ None
    third e [] = refl
    third e (d ∷ u) = at (is_quote q)
      where
        at : (m : Bool) → (if m && (c == q && d == q) then whole_body (in_lines raw q) u else None) ≡ None
        at false = refl
        at true = ap (λ k. if k && d == q then whole_body (in_lines raw q) u else None) e

    by : (m : Bool) → (c == q) ≡ m → (if m then Some x else None) ≡ None → read_threefold raw (q ∷ c ∷ (x ++ z)) ≡ None
    by true e h = cc
    by false e h = third e (x ++ z)

-- an empty string, and what follows it
empty_reaches : (raw : Bool) (q : ℕ) (z : Text) (o : Body) → read_threefold raw (q ∷ q ∷ z) ≡ o → BodyReaches (or_body o (Some ([], z))) [] z
empty_reaches raw q z None e = inr refl
empty_reaches raw q [] (Some w) e = cc
empty_reaches raw q (c ∷ z) (Some w) e = by (is_quote q && (q == q && c == q)) e
  where
    by : (m : Bool) → (if m then whole_body (in_lines raw q) z else None) ≡ Some w → (length w.1 < length (c ∷ z)) ⊎ (w ≡ ([], c ∷ z))
    by false h = cc
    by true h =
        let f = body_sound (suc (length z)) (in_lines raw q) z w.0 w.1 h in
        inl (omega (arith, ap length f.1, length-append f.0 w.1))

body_reaches : (raw : Bool) (q : ℕ) (x : Text) (vs : List ℕ) (z : Text) → is_quote q ≡ true → IsBody (on_a_line raw q) x vs → BodyReaches (read_quoted raw (q ∷ (x ++ z))) vs z
body_reaches raw q x vs z e closed =
    subst (λ y. BodyReaches (or_body (read_threefold raw (q ∷ q ∷ z)) y) [] z) (sym (single_read raw q (q ∷ []) [] z e closed))
    (empty_reaches raw q z (read_threefold raw (q ∷ q ∷ z)) refl)
body_reaches raw q x vs z e (a_part y w v us h p b) =
    let n : 1 ≤ length (y ++ w) = omega (arith, length-append y w, part_length (on_a_line raw q) y v p) in
    let t = q ∷ ((y ++ w) ++ z) in
    let read : read_quoted raw t ≡ Some (v ∷ us, z) = ap (λ o. or_body o (read_single raw t)) (no_third raw q (y ++ w) z n h)
    ∙ single_read raw q (y ++ w) (v ∷ us) z e (a_part y w v us h p b) in
    subst (λ o. BodyReaches o (v ∷ us) z) (sym read) (inr refl)

quoted_reaches : (raw : Bool) (x : Text) (vs : List ℕ) (z : Text) → IsQuoted raw x vs → BodyReaches (read_quoted raw (x ++ z)) vs z
quoted_reaches raw x vs z (in_quotes q y us e b) = body_reaches raw q y us z e b
quoted_reaches raw x vs z (in_three_quotes q y us e b) =
    let t = q ∷ q ∷ q ∷ (y ++ z) in
    subst (λ o. BodyReaches (or_body o (read_single raw t)) us z) (sym (threefold_read raw q y us z e b)) (inr refl)

-- ---- prefixes

quoted_first : (raw : Bool) (x : Text) (vs : List ℕ) → IsQuoted raw x vs → (q : ℕ) × (y : Text) × (x ≡ q ∷ y) × (is_quote q ≡ true)
quoted_first raw x vs (in_quotes q y us e b) = (q, y, refl, e)
quoted_first raw x vs (in_three_quotes q y us e b) = (q, q ∷ q ∷ y, refl, e)

quote_not : (p : ℕ → Bool) (q : ℕ) → is_quote q ≡ true → list_all (λ d. not (p d)) (0x22 ∷ 0x27 ∷ []) ≡ true → p q ≡ false
quote_not p q e k = among_not p q (0x22 ∷ 0x27 ∷ []) e k

raw_not : (p : ℕ → Bool) (r : ℕ) → (r ∈ "rR") ≡ true → list_all (λ d. not (p d)) (0x72 ∷ 0x52 ∷ []) ≡ true → p r ≡ false
raw_not p r e k = among_not p r (0x72 ∷ 0x52 ∷ []) e k

bytes_not : (p : ℕ → Bool) (b : ℕ) → (b ∈ "bB") ≡ true → list_all (λ d. not (p d)) (0x62 ∷ 0x42 ∷ []) ≡ true → p b ≡ false
bytes_not p b e k = among_not p b (0x62 ∷ 0x42 ∷ []) e k

string_sound : (t : Text) (vs : List ℕ) (rest : Text) → read_string t ≡ Some (vs, rest) → BodyFront IsString t vs rest
string_sound [] vs rest h = cc
string_sound (c ∷ t) vs rest h = by (c ∈ "rR") refl h
  where
    by : (m : Bool) → (c ∈ "rR") ≡ m → (if m then read_quoted true t else read_quoted false (c ∷ t)) ≡ Some (vs, rest) → BodyFront IsString (c ∷ t) vs rest
    by true e h = let f = quoted_sound true t vs rest h in (c ∷ f.0, ap (λ u. c ∷ u) f.1, a_raw_string c f.0 vs e f.2)
    by false e h = let f = quoted_sound false (c ∷ t) vs rest h in (f.0, f.1, a_string f.0 vs f.2)

plain_string : (q : ℕ) (y z : Text) → is_quote q ≡ true → read_string (q ∷ y ++ z) ≡ read_quoted false (q ∷ y ++ z)
plain_string q y z e = ap (λ m. if m then read_quoted true (y ++ z) else read_quoted false (q ∷ y ++ z)) (quote_not (λ c. c ∈ "rR") q e refl)

string_reaches : (x : Text) (vs : List ℕ) (z : Text) → IsString x vs → BodyReaches (read_string (x ++ z)) vs z
string_reaches x vs z (a_string y us h) =
    let f = quoted_first false y us h in
    let read : read_string (y ++ z) ≡ read_quoted false (y ++ z) = ap (λ u. read_string (u ++ z)) f.2 ∙ (plain_string f.0 f.1 z f.3 ∙ ap (λ u. read_quoted false (u ++ z)) (sym f.2)) in
    subst (λ o. BodyReaches o us z) (sym read) (quoted_reaches false y us z h)
string_reaches x vs z (a_raw_string r y us e h) =
    subst (λ m. BodyReaches (if m then read_quoted true (y ++ z) else read_quoted false (r ∷ (y ++ z))) us z) (sym e) (quoted_reaches true y us z h)

text_front : (t : Text) (o : Body) (l : Lexeme) (rest : Text) → ((vs : List ℕ) (r : Text) → o ≡ Some (vs, r) → BodyFront IsString t vs r)
    → option_map text_found o ≡ Some (l, rest) → Front IsStringLiteral t l rest
text_front t None l rest f h = cc
text_front t (Some w) l rest f h = let g = f w.0 w.1 refl in front_is IsStringLiteral t (string w.0, w.1) l rest h (g.0, g.1, a_text g.0 w.0 g.2)

bytes_front : (b : ℕ) (t : Text) (o : Body) (l : Lexeme) (rest : Text) → (b ∈ "bB") ≡ true → ((vs : List ℕ) (r : Text) → o ≡ Some (vs, r) → BodyFront IsString t vs r)
    → option_map bytes_found o ≡ Some (l, rest) → Front IsStringLiteral (b ∷ t) l rest
bytes_front b t None l rest e f h = cc
bytes_front b t (Some w) l rest e f h =
    let g = f w.0 w.1 refl in front_is IsStringLiteral (b ∷ t) (bytes, w.1) l rest h (b ∷ g.0, ap (λ u. b ∷ u) g.1, some_bytes b g.0 w.0 e g.2)

pub literal_sound : Sound read_literal IsStringLiteral
literal_sound [] l rest h = cc
literal_sound (c ∷ t) l rest h = by (c ∈ "bB") refl h
  where
    by : (m : Bool) → (c ∈ "bB") ≡ m → (if m then option_map bytes_found (read_string t) else option_map text_found (read_string (c ∷ t))) ≡ Some (l, rest)
        → Front IsStringLiteral (c ∷ t) l rest
    by true e h = bytes_front c t (read_string t) l rest e (string_sound t) h
    by false e h = text_front (c ∷ t) (read_string (c ∷ t)) l rest (string_sound (c ∷ t)) h

text_reaches : (o : Body) (vs : List ℕ) (z : Text) → BodyReaches o vs z → Reaches (option_map text_found o) (string vs) z
text_reaches None vs z h = absurd h
text_reaches (Some w) vs z (inl s) = inl s
text_reaches (Some w) vs z (inr e) = inr (ap text_found e)

bytes_reaches : (o : Body) (vs : List ℕ) (z : Text) → BodyReaches o vs z → Reaches (option_map bytes_found o) bytes z
bytes_reaches None vs z h = absurd h
bytes_reaches (Some w) vs z (inl s) = inl s
bytes_reaches (Some w) vs z (inr e) = inr (ap bytes_found e)

string_first : (x : Text) (vs : List ℕ) → IsString x vs → (c : ℕ) × (y : Text) × (x ≡ c ∷ y) × ((c ∈ "bB") ≡ false)
string_first x vs (a_string y us h) = let f = quoted_first false y us h in (f.0, f.1, f.2, quote_not (λ c. c ∈ "bB") f.0 f.3 refl)
string_first x vs (a_raw_string r y us e h) = (r, y, refl, raw_not (λ c. c ∈ "bB") r e refl)

plain_literal : (c : ℕ) (y z : Text) → (c ∈ "bB") ≡ false → read_literal (c ∷ y ++ z) ≡ option_map text_found (read_string (c ∷ y ++ z))
plain_literal c y z e = ap (λ m. if m then option_map bytes_found (read_string (y ++ z)) else option_map text_found (read_string (c ∷ y ++ z))) e

pub literal_longest : Longest read_literal IsStringLiteral
literal_longest x z l (a_text y vs h) =
    let f = string_first y vs h in
    let read : read_literal (y ++ z) ≡ option_map text_found (read_string (y ++ z)) =
    ap (λ u. read_literal (u ++ z)) f.2 ∙ (plain_literal f.0 f.1 z f.3 ∙ ap (λ u. option_map text_found (read_string (u ++ z))) (sym f.2)) in
    subst (λ o. Reaches o (string vs) z) (sym read) (text_reaches (read_string (y ++ z)) vs z (string_reaches y vs z h))
literal_longest x z l (some_bytes b y vs e h) =
    subst (λ m. Reaches (if m then option_map bytes_found (read_string (y ++ z)) else option_map text_found (read_string (b ∷ (y ++ z)))) bytes z) (sym e)
    (bytes_reaches (read_string (y ++ z)) vs z (string_reaches y vs z h))

-- ---- strings are no lexemes of another sort

or_left : (a b : Bool) → a ≡ true → (a || b) ≡ true
or_left true b e = refl
or_left false b e = cc

not_not : (b : Bool) → not b ≡ false → b ≡ true
not_not true e = refl
not_not false e = cc

quoted_begins : (raw : Bool) (x : Text) (vs : List ℕ) → IsQuoted raw x vs → begins_quoted x ≡ true
quoted_begins raw x vs (in_quotes q y us e b) = e
quoted_begins raw x vs (in_three_quotes q y us e b) = e

raw_is : (x : Text) (vs : List ℕ) → IsString x vs → begins_raw x ≡ true
raw_is x vs (a_string y us h) =
    let f = quoted_first false y us h in
    ap begins_raw f.2 ∙ or_left (is_quote f.0) (begins_quoted f.1) f.3
raw_is x vs (a_raw_string r y us e h) = or_right (is_quote r) (begins_quoted y) (quoted_begins true y us h)

raw_string : (x : Text) → begins_raw x ≡ true → begins_string x ≡ true
raw_string [] h = cc
raw_string (c ∷ t) h = by (is_quote c) h
  where
    by : (m : Bool) → (m || begins_quoted t) ≡ true → (m || begins_raw t) ≡ true
    by true h = refl
    by false h = quoted_raw t h
      where
        quoted_raw : (u : Text) → begins_quoted u ≡ true → begins_raw u ≡ true
        quoted_raw [] k = cc
        quoted_raw (d ∷ u) k = or_left (is_quote d) (begins_quoted u) k

pub literal_is : (x : Text) (l : Lexeme) → IsStringLiteral x l → begins_string x ≡ true
literal_is x l (a_text y vs h) = raw_string y (raw_is y vs h)
literal_is x l (some_bytes b y vs e h) = or_right (is_quote b) (begins_raw y) (raw_is y vs h)

string_name : (x : Text) (vs : List ℕ) → IsString x vs → begins_name x ≡ true
string_name x vs (a_string y us h) =
    let f = quoted_first false y us h in
    ap begins_name f.2 ∙ or_right (is_letter f.0) (is_quote f.0) f.3
string_name x vs (a_raw_string r y us e h) = or_left (is_letter r) (is_quote r) (not_not (is_letter r) (raw_not (λ c. not (is_letter c)) r e refl))

pub literal_name : (x : Text) (l : Lexeme) → IsStringLiteral x l → begins_name x ≡ true
literal_name x l (a_text y vs h) = string_name y vs h
literal_name x l (some_bytes b y vs e h) = or_left (is_letter b) (is_quote b) (not_not (is_letter b) (bytes_not (λ c. not (is_letter c)) b e refl))
