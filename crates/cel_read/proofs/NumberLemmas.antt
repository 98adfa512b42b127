-- Numbers: what is read, and that it is as long as can be.
use Rattle.std.proofs.Common.{◌≡◌, ◌<◌, ◌≤◌, ◌⊎◌, ◌∙◌, ℕ, Bool, true, false, not, ◌&&◌, ◌||◌, ◌==◌, ◌-◌, [], ◌∷◌, ◌++◌, length, take, drop, Option, Some, None, refl, sym, ap, subst, inl, inr, arith, append_assoc, append-nil, if◌then◌else◌}
use Rattle.std.specs.List.{list_all}
use Rattle.std.specs.Str.Parse.{digits_value}
use Rattle.std.proofs.lemmas.Bool.{eqb-true}
use Rattle.std.proofs.lemmas.List.{length-append, length-drop}
use Rattle.std.proofs.Math.Seq.{take-length}
use Rattle.cel_read.specs.Lexemes.{Text, Lexeme, integer, unsigned, double, are_digits, IsInteger, decimal, hexadecimal, IsExponent, exponent, signed_exponent, IsDouble, fraction, fraction_with_exponent, with_exponent, IsNumber, an_integer, an_unsigned, a_double, ◌∈◌}
use Rattle.cel_read.specs.Internal.Runs.{run}
use Rattle.cel_read.specs.Internal.Reading.{before, is_decimal, is_hexadecimal, begins_with_digit, begins_hexadecimal, begins_fraction, after_sign, after_exponent_sign, after_exponent, or_else, suffixed, double_to, read_integer, after_fraction, read_decimal, read_hexadecimal, read_number}
use Rattle.cel_read.proofs.RunLemmas.{both, run_yes, run_splits, run_passes, run_shorter, run_over, run_to, run_cases, run_over_cases}
use Rattle.cel_read.proofs.Readers.{some_is, Front, Sound, Reaches, Longest, at, front_is, before_is}
use Rattle.cel_read.proofs.PlainLemmas.{among_not, begins_number, begins_name, digit_no_name}

-- ---- suffixes

-- the integer of a text, with a suffix or without
suffixed_sound : (x r : Text) (n : ℕ) → IsInteger x n → Front IsNumber (x ++ r) (suffixed (x ++ r) n r).0 (suffixed (x ++ r) n r).1
suffixed_sound x [] n h = (x, refl, an_integer x n h)
suffixed_sound x (u ∷ r) n h = by (u ∈ "uU") refl
  where
    t : Text
    t = x ++ u ∷ r

    seam : t ≡ (x ++ u ∷ []) ++ r
    seam = sym (append_assoc x (u ∷ []) r)

    spelt : before t r ≡ x ++ u ∷ []
    spelt = ap (λ k. before k r) seam ∙ before_is (x ++ u ∷ []) r

    by : (b : Bool) → (u ∈ "uU") ≡ b → Front IsNumber t (if b then at (unsigned (before t r)) r else at (integer n) (u ∷ r)).0 (if b then at (unsigned (before t r)) r else at (integer n) (u ∷ r)).1
    by true e = (x ++ u ∷ [], seam, subst (λ k. IsNumber (x ++ u ∷ []) (unsigned k)) (sym spelt) (an_unsigned x n u h e))
    by false e = (x, refl, an_integer x n h)

suffixed_shorter : (t r : Text) (n : ℕ) → length (suffixed t n r).1 ≤ length r
suffixed_shorter t [] n = omega arith
suffixed_shorter t (u ∷ r) n = by (u ∈ "uU")
  where
    by : (b : Bool) → length (if b then at (unsigned (before t r)) r else at (integer n) (u ∷ r)).1 ≤ length (u ∷ r)
    by true = omega arith
    by false = omega arith

suffixed_longest : (t z : Text) (n : ℕ) → Reaches (Some (suffixed t n z)) (integer n) z
suffixed_longest t [] n = inr refl
suffixed_longest t (u ∷ z) n = by (u ∈ "uU")
  where
    by : (b : Bool) → Reaches (Some (if b then at (unsigned (before t z)) z else at (integer n) (u ∷ z))) (integer n) (u ∷ z)
    by true = inl (omega arith)
    by false = inr refl

suffixed_is : (x z : Text) (n u : ℕ) → (u ∈ "uU") ≡ true → suffixed (x ++ u ∷ z) n (u ∷ z) ≡ (unsigned (x ++ u ∷ []), z)
suffixed_is x z n u e =
    let t = x ++ u ∷ z in
    ap (λ b. if b then at (unsigned (before t z)) z else at (integer n) (u ∷ z)) e
    ∙ ap (λ k. (unsigned k, z)) (ap (λ k. before k z) (sym (append_assoc x (u ∷ []) z)) ∙ before_is (x ++ u ∷ []) z)

-- ---- exponents

-- what is read after `e` is an exponent
abbrev Power : Text → Text → Type 0
Power g r = (p : Text) × (g ≡ p ++ r) × IsExponent p

digits_first : (t : Text) → begins_with_digit t ≡ true → (d : ℕ) × (u : Text) × (t ≡ d ∷ u) × (is_decimal d ≡ true)
digits_first [] h = cc
digits_first (d ∷ u) h = (d, u, refl, h)

digits_run : (d : ℕ) (u : Text) → is_decimal d ≡ true → are_digits 10 (d ∷ (run is_decimal u).0) ≡ true
digits_run d u e = ap (λ b. b && list_all is_decimal (run is_decimal u).0) e ∙ run_passes is_decimal u

sign_sound : (e s : ℕ) (t r : Text) → (e ∈ "eE") ≡ true → after_sign s t ≡ Some r → Power (e ∷ s ∷ t) r
sign_sound e s t r he h = by (s ∈ "+-" && begins_with_digit t) refl h
  where
    by : (b : Bool) → (s ∈ "+-" && begins_with_digit t) ≡ b → (if b then Some (run is_decimal t).1 else None) ≡ Some r → Power (e ∷ s ∷ t) r
    by false q h = cc
    by true q h =
        let q' = both (s ∈ "+-") (begins_with_digit t) q in
        let f = digits_first t q'.1 in
        let t' = f.1 in
        let ds = (run is_decimal t').0 in
        let whole : t ≡ f.0 ∷ (ds ++ (run is_decimal t').1) = f.2 ∙ ap (λ k. f.0 ∷ k) (run_splits is_decimal t') in
        let end : (run is_decimal t).1 ≡ (run is_decimal t').1 = ap (λ k. (run is_decimal k).1) f.2 ∙ ap (λ x. x.1) (run_yes is_decimal f.0 t' f.3) in (
          e ∷ s ∷ f.0 ∷ ds,
          ap (λ k. e ∷ s ∷ k) (whole ∙ ap (λ k. f.0 ∷ (ds ++ k)) (sym end ∙ some_is _ _ h)),
          signed_exponent e s f.0 ds he q'.0 (digits_run f.0 t' f.3),
        )

exponent_sign_sound : (e : ℕ) (t r : Text) → (e ∈ "eE") ≡ true → after_exponent_sign t ≡ Some r → Power (e ∷ t) r
exponent_sign_sound e [] r he h = cc
exponent_sign_sound e (s ∷ t) r he h = by (is_decimal s) refl h
  where
    by : (b : Bool) → is_decimal s ≡ b → (if b then Some (run is_decimal t).1 else after_sign s t) ≡ Some r → Power (e ∷ s ∷ t) r
    by true q h = (
      e ∷ s ∷ (run is_decimal t).0,
      ap (λ k. e ∷ s ∷ k) (run_splits is_decimal t ∙ ap (λ k. (run is_decimal t).0 ++ k) (some_is _ _ h)),
      exponent e s (run is_decimal t).0 he (digits_run s t q),
    )
    by false q h = sign_sound e s t r he h

exponent_sound : (g r : Text) → after_exponent g ≡ Some r → Power g r
exponent_sound [] r h = cc
exponent_sound (e ∷ t) r h = by (e ∈ "eE") refl h
  where
    by : (b : Bool) → (e ∈ "eE") ≡ b → (if b then after_exponent_sign t else None) ≡ Some r → Power (e ∷ t) r
    by true q h = exponent_sign_sound e t r q h
    by false q h = cc

power_shorter : (g r : Text) → Power g r → length r < length g
power_shorter g r (p, q, exponent e d ds a b) = let n = ap length q in omega (arith, n, length-append ds r)
power_shorter g r (p, q, signed_exponent e s d ds a b c) = let n = ap length q in omega (arith, n, length-append ds r)

sign_no_digit : (s : ℕ) → (s ∈ "+-") ≡ true → is_decimal s ≡ false
sign_no_digit s e = among_not is_decimal s (0x2B ∷ 0x2D ∷ []) e refl

-- and an exponent is read, with the digits that follow
exponent_read : (p z : Text) → IsExponent p → after_exponent (p ++ z) ≡ Some (run is_decimal z).1
exponent_read p z (exponent e d ds a b) =
    let b' = both (is_decimal d) (are_digits 10 ds) b in
    ap (λ k. if k then after_exponent_sign (d ∷ (ds ++ z)) else None) a
    ∙ (ap (λ k. if k then Some (run is_decimal (ds ++ z)).1 else after_sign d (ds ++ z)) b'.0 ∙ ap (λ x. Some x.1) (run_over is_decimal ds z b'.1))
exponent_read p z (signed_exponent e s d ds a b c) =
    let c' = both (is_decimal d) (are_digits 10 ds) c in
    let t = d ∷ (ds ++ z) in
    ap (λ k. if k then after_exponent_sign (s ∷ t) else None) a
    ∙ (ap (λ k. if k then Some (run is_decimal t).1 else after_sign s t) (sign_no_digit s b)
    ∙ (ap (λ k. if k && is_decimal d then Some (run is_decimal t).1 else None) b
    ∙ (ap (λ k. if k then Some (run is_decimal t).1 else None) c'.0 ∙ ap (λ x. Some x.1) (run_over is_decimal (d ∷ ds) z c))))

-- its first character is no digit, no point and no `x`
exponent_first : (p z : Text) → IsExponent p → (e : ℕ) × (t : Text) × (p ++ z ≡ e ∷ t) × ((e ∈ "eE") ≡ true)
exponent_first p z (exponent e d ds a b) = (e, d ∷ (ds ++ z), refl, a)
exponent_first p z (signed_exponent e s d ds a b c) = (e, s ∷ d ∷ (ds ++ z), refl, a)

e_no_digit : (e : ℕ) → (e ∈ "eE") ≡ true → is_decimal e ≡ false
e_no_digit e h = among_not is_decimal e (0x65 ∷ 0x45 ∷ []) h refl

-- ---- doubles

double_longest : (x z r : Text) → (length r < length z) ⊎ (r ≡ z) → Reaches (Some (double_to (x ++ z) r)) (double x) z
double_longest x z r (inl l) = inl l
double_longest x z r (inr e) = inr (ap (double_to (x ++ z)) e ∙ ap (λ k. (double k, z)) (before_is x z))

double_sound : (x r : Text) → IsDouble x → Front IsNumber (x ++ r) (double_to (x ++ r) r).0 (double_to (x ++ r) r).1
double_sound x r h = (x, refl, subst (λ k. IsNumber x (double k)) (sym (before_is x r)) (a_double x h))

-- ---- where an integer is hexadecimal

point_is : (b : Text) → begins_fraction b ≡ true → (d : ℕ) × (u : Text) × (b ≡ 0x2E ∷ d ∷ u) × (is_decimal d ≡ true)
point_is [] h = cc
point_is (a ∷ []) h = cc
point_is (a ∷ d ∷ u) h =
    let h' = both (a == 0x2E) (is_decimal d) h in
    (d, u, ap (λ k. k ∷ d ∷ u) (eqb-true a 0x2E h'.0), h'.1)

x_is : (t : Text) → begins_hexadecimal t ≡ true → (d : ℕ) × (u : Text) × (t ≡ 0x30 ∷ 0x78 ∷ d ∷ u) × (is_hexadecimal d ≡ true)
x_is [] h = cc
x_is (a ∷ []) h = cc
x_is (a ∷ b ∷ []) h = cc
x_is (a ∷ b ∷ d ∷ u) h =
    let h' = both (a == 0x30) (b == 0x78 && is_hexadecimal d) h in
    let k' = both (b == 0x78) (is_hexadecimal d) h'.1 in
    (d, u, ap (λ k. k ∷ b ∷ d ∷ u) (eqb-true a 0x30 h'.0) ∙ ap (λ k. 0x30 ∷ k ∷ d ∷ u) (eqb-true b 0x78 k'.0), k'.1)

abbrev begins_with_x : Text → Bool
begins_with_x [] = false
begins_with_x (c ∷ t) = c == 0x78

digit_no_x : (d : ℕ) → is_decimal d ≡ true → (d == 0x78) ≡ false
digit_no_x d e = by (d == 0x78) refl
  where
    by : (b : Bool) → (d == 0x78) ≡ b → b ≡ false
    by false k = refl
    by true k = let n = ap is_decimal (eqb-true d 0x78 k) in cc

second_no_x : (a b : ℕ) (t : Text) → (b == 0x78) ≡ false → begins_hexadecimal (a ∷ b ∷ t) ≡ false
second_no_x a b [] e = refl
second_no_x a b (c ∷ t) e = by (a == 0x30)
  where
    by : (k : Bool) → (k && ((b == 0x78) && is_hexadecimal c)) ≡ false
    by true = ap (λ m. m && is_hexadecimal c) e
    by false = refl

-- digits that no `x` follows
no_x : (d : ℕ) (ds w : Text) → are_digits 10 (d ∷ ds) ≡ true → begins_with_x w ≡ false → begins_hexadecimal (d ∷ (ds ++ w)) ≡ false
no_x d [] [] h e = refl
no_x d [] (c ∷ w) h e = second_no_x d c w e
no_x d (c ∷ ds) w h e =
    let h' = both (is_decimal d) (are_digits 10 (c ∷ ds)) h in
    second_no_x d c (ds ++ w) (digit_no_x c (both (is_decimal c) (are_digits 10 ds) h'.1).0)

whole_no_x : (whole w : Text) → are_digits 10 whole ≡ true → begins_hexadecimal (whole ++ 0x2E ∷ w) ≡ false
whole_no_x [] [] h = refl
whole_no_x [] (a ∷ []) h = refl
whole_no_x [] (a ∷ b ∷ w) h = refl
whole_no_x (d ∷ ds) w h = no_x d ds (0x2E ∷ w) h refl

-- ---- what is read

abbrev FrontOf : Text → Lexeme × Text → Type 0
FrontOf t w = Front IsNumber t w.0 w.1

integer_sound : (ds b : Text) (l : Lexeme) (rest : Text) → are_digits 10 ds ≡ true → read_integer (ds ++ b) ds b (after_exponent b) ≡ Some (l, rest) → Front IsNumber (ds ++ b) l rest
integer_sound [] b l rest k h = cc
integer_sound (d ∷ ds) b l rest k h = by (after_exponent b) refl h
  where
    t : Text
    t = d ∷ (ds ++ b)

    by : (o : Option Text) → after_exponent b ≡ o → read_integer t (d ∷ ds) b o ≡ Some (l, rest) → Front IsNumber t l rest
    by None e h = front_is IsNumber t (suffixed t (digits_value 10 (d ∷ ds)) b) l rest h (suffixed_sound (d ∷ ds) b (digits_value 10 (d ∷ ds)) (decimal d ds k))
    by (Some r) e h =
        let p = exponent_sound b r e in
        let x = d ∷ (ds ++ p.0) in
        let seam : x ++ r ≡ t = ap (λ u. d ∷ u) (append_assoc ds p.0 r ∙ ap (λ u. ds ++ u) (sym p.1)) in
        front_is IsNumber t (double_to t r) l rest h (subst (λ u. FrontOf u (double_to u r)) seam (double_sound x r (with_exponent d ds p.0 k p.2)))

fraction_sound : (ds b : Text) → are_digits 10 ds ≡ true → begins_fraction b ≡ true
    → FrontOf (ds ++ b) (double_to (ds ++ b) (or_else (after_fraction b) (after_exponent (after_fraction b))))
fraction_sound ds b k h = by (after_exponent (after_fraction b)) refl
  where
    f : (d : ℕ) × (u : Text) × (b ≡ 0x2E ∷ d ∷ u) × (is_decimal d ≡ true)
    f = point_is b h

    d : ℕ
    d = f.0

    u : Text
    u = f.1

    fs : Text
    fs = (run is_decimal u).0

    g : Text
    g = (run is_decimal u).1

    all : are_digits 10 (d ∷ fs) ≡ true
    all = digits_run d u f.3

    after : after_fraction b ≡ g
    after = ap after_fraction f.2 ∙ ap (λ x. x.1) (run_yes is_decimal d u f.3)

    whole : b ≡ 0x2E ∷ d ∷ (fs ++ g)
    whole = f.2 ∙ ap (λ v. 0x2E ∷ d ∷ v) (run_splits is_decimal u)

    by : (o : Option Text) → after_exponent (after_fraction b) ≡ o → FrontOf (ds ++ b) (double_to (ds ++ b) (or_else (after_fraction b) o))
    by None e =
        let x = ds ++ 0x2E ∷ d ∷ fs in
        let seam : x ++ g ≡ ds ++ b = append_assoc ds (0x2E ∷ d ∷ fs) g ∙ ap (λ v. ds ++ v) (sym whole) in
        subst (λ v. FrontOf (ds ++ b) (double_to (ds ++ b) v)) (sym after) (subst (λ v. FrontOf v (double_to v g)) seam (double_sound x g (fraction ds d fs k all)))
    by (Some r) e =
        let p = exponent_sound g r (ap after_exponent (sym after) ∙ e) in
        let x = ds ++ 0x2E ∷ d ∷ (fs ++ p.0) in
        let inner : 0x2E ∷ d ∷ ((fs ++ p.0) ++ r) ≡ b = ap (λ v. 0x2E ∷ d ∷ v) (append_assoc fs p.0 r ∙ ap (λ v. fs ++ v) (sym p.1)) ∙ sym whole in
        let seam : x ++ r ≡ ds ++ b = append_assoc ds (0x2E ∷ d ∷ (fs ++ p.0)) r ∙ ap (λ v. ds ++ v) inner in
        subst (λ v. FrontOf v (double_to v r)) seam (double_sound x r (fraction_with_exponent ds d fs p.0 k all p.2))

decimal_sound : (ds b : Text) (l : Lexeme) (rest : Text) → are_digits 10 ds ≡ true → read_decimal (ds ++ b) (ds, b) ≡ Some (l, rest) → Front IsNumber (ds ++ b) l rest
decimal_sound ds b l rest k h = by (begins_fraction b) refl h
  where
    t : Text
    t = ds ++ b

    w : Lexeme × Text
    w = double_to t (or_else (after_fraction b) (after_exponent (after_fraction b)))

    by : (c : Bool) → begins_fraction b ≡ c → (if c then Some w else read_integer t ds b (after_exponent b)) ≡ Some (l, rest) → Front IsNumber t l rest
    by true e h = front_is IsNumber t w l rest h (fraction_sound ds b k e)
    by false e h = integer_sound ds b l rest k h

hexadecimal_sound : (d : ℕ) (u : Text) (l : Lexeme) (rest : Text) → is_hexadecimal d ≡ true
    → read_hexadecimal (0x30 ∷ 0x78 ∷ d ∷ u) (run is_hexadecimal (d ∷ u)) ≡ Some (l, rest) → Front IsNumber (0x30 ∷ 0x78 ∷ d ∷ u) l rest
hexadecimal_sound d u l rest k h =
    let ds = (run is_hexadecimal u).0 in
    let b = (run is_hexadecimal u).1 in
    let t = 0x30 ∷ 0x78 ∷ d ∷ u in
    let all : are_digits 16 (d ∷ ds) ≡ true = ap (λ c. c && list_all is_hexadecimal ds) k ∙ run_passes is_hexadecimal u in
    let x = 0x30 ∷ 0x78 ∷ d ∷ ds in
    let n = digits_value 16 (d ∷ ds) in
    let seam : x ++ b ≡ t = ap (λ v. 0x30 ∷ 0x78 ∷ d ∷ v) (sym (run_splits is_hexadecimal u)) in
    let read : Some (suffixed t n b) ≡ Some (l, rest) = ap (read_hexadecimal t) (sym (run_yes is_hexadecimal d u k)) ∙ h in
    front_is IsNumber t (suffixed t n b) l rest read (subst (λ v. FrontOf v (suffixed v n b)) seam (suffixed_sound x b n (hexadecimal d ds all)))

pub number_sound : Sound read_number IsNumber
number_sound t l rest h = by (begins_hexadecimal t) refl h
  where
    by : (c : Bool) → begins_hexadecimal t ≡ c → (if c then read_hexadecimal t (run is_hexadecimal (drop 2 t)) else read_decimal t (run is_decimal t)) ≡ Some (l, rest)
        → Front IsNumber t l rest
    by true e h =
        let f = x_is t e in
        subst (λ v. Front IsNumber v l rest) (sym f.2)
        (hexadecimal_sound f.0 f.1 l rest f.3 (ap (λ v. read_hexadecimal v (run is_hexadecimal (drop 2 v))) (sym f.2) ∙ h))
    by false e h =
        let s = run_splits is_decimal t in
        let x = run is_decimal t in
        subst (λ v. Front IsNumber v l rest) (sym s) (decimal_sound x.0 x.1 l rest (run_passes is_decimal t) (ap (λ v. read_decimal v x) (sym s) ∙ h))

-- ---- and it is as long as can be

number_decimal : (t : Text) → begins_hexadecimal t ≡ false → read_number t ≡ read_decimal t (run is_decimal t)
number_decimal t e = ap (λ c. if c then read_hexadecimal t (run is_hexadecimal (drop 2 t)) else read_decimal t (run is_decimal t)) e

number_hexadecimal : (t : Text) → begins_hexadecimal t ≡ true → read_number t ≡ read_hexadecimal t (run is_hexadecimal (drop 2 t))
number_hexadecimal t e = ap (λ c. if c then read_hexadecimal t (run is_hexadecimal (drop 2 t)) else read_decimal t (run is_decimal t)) e

fraction_shorter : (b : Text) → begins_fraction b ≡ true → length (after_fraction b) < length b
fraction_shorter b h =
    let f = point_is b h in
    let n = ap length f.2 in
    let m = ap (λ v. length (after_fraction v)) f.2 in
    omega (arith, n, m, run_shorter is_decimal (f.0 ∷ f.1))

or_else_shorter : (g : Text) → length (or_else g (after_exponent g)) ≤ length g
or_else_shorter g = by (after_exponent g) refl
  where
    by : (o : Option Text) → after_exponent g ≡ o → length (or_else g o) ≤ length g
    by None e = omega arith
    by (Some r) e = let s = power_shorter g r (exponent_sound g r e) in omega (arith, s)

-- after digits: what is read goes at least as far as the integer
decimal_reaches : (t : Text) (d : ℕ) (ds b : Text) (l : Lexeme) (z : Text) → length b ≤ length z → Reaches (Some (suffixed t (digits_value 10 (d ∷ ds)) b)) l z
    → Reaches (read_decimal t (d ∷ ds, b)) l z
decimal_reaches t d ds b l z n h = by (begins_fraction b) refl
  where
    g : Text
    g = after_fraction b

    power : (o : Option Text) → after_exponent b ≡ o → Reaches (read_integer t (d ∷ ds) b o) l z
    power None e = h
    power (Some r) e = let s = power_shorter b r (exponent_sound b r e) in inl (omega (arith, s, n))

    by : (c : Bool) → begins_fraction b ≡ c → Reaches (if c then Some (double_to t (or_else g (after_exponent g))) else read_integer t (d ∷ ds) b (after_exponent b)) l z
    by true e = let s = fraction_shorter b e in let m = or_else_shorter g in inl (omega (arith, s, m, n))
    by false e = power (after_exponent b) refl

plain_longest : (d : ℕ) (ds z : Text) → are_digits 10 (d ∷ ds) ≡ true → begins_hexadecimal (d ∷ (ds ++ z)) ≡ false
    → Reaches (read_number (d ∷ (ds ++ z))) (integer (digits_value 10 (d ∷ ds))) z
plain_longest d ds z k e = subst (λ o. Reaches o l z) (sym (number_decimal t e)) (by (run_cases is_decimal z))
  where
    t : Text
    t = d ∷ (ds ++ z)

    l : Lexeme
    l = integer (digits_value 10 (d ∷ ds))

    a : Text
    a = (run is_decimal z).0

    b : Text
    b = (run is_decimal z).1

    over : run is_decimal t ≡ (d ∷ (ds ++ a), b)
    over = run_over is_decimal (d ∷ ds) z k

    by : (length b < length z) ⊎ (run is_decimal z ≡ ([], z)) → Reaches (read_decimal t (run is_decimal t)) l z
    by (inl s) =
        let m = suffixed_shorter t b (digits_value 10 (d ∷ (ds ++ a))) in
        subst (λ y. Reaches (read_decimal t y) l z) (sym over) (decimal_reaches t d (ds ++ a) b l z (omega (arith, s)) (inl (omega (arith, s, m))))
    by (inr q) =
        let exact : run is_decimal t ≡ (d ∷ ds, z) = over ∙ (ap (λ y. (d ∷ (ds ++ y.0), y.1)) q ∙ ap (λ v. (d ∷ v, z)) (append-nil ds)) in
        subst (λ y. Reaches (read_decimal t y) l z) (sym exact) (decimal_reaches t d ds z l z (omega arith) (suffixed_longest t z (digits_value 10 (d ∷ ds))))

decimal_longest : (d : ℕ) (ds z : Text) → are_digits 10 (d ∷ ds) ≡ true → Reaches (read_number (d ∷ (ds ++ z))) (integer (digits_value 10 (d ∷ ds))) z
decimal_longest d (c ∷ ds) z k =
    let k' = both (is_decimal d) (are_digits 10 (c ∷ ds)) k in
    plain_longest d (c ∷ ds) z k (second_no_x d c (ds ++ z) (digit_no_x c (both (is_decimal c) (are_digits 10 ds) k'.1).0))
decimal_longest d [] z k = by (begins_hexadecimal (d ∷ z)) refl
  where
    l : Lexeme
    l = integer (digits_value 10 (d ∷ []))

    by : (c : Bool) → begins_hexadecimal (d ∷ z) ≡ c → Reaches (read_number (d ∷ z)) l z
    by false e = plain_longest d [] z k e
    by true e =
        let f = x_is (d ∷ z) e in
        let n = ap length f.2 in
        let y = run is_hexadecimal (drop 2 (d ∷ z)) in
        let m = ap (λ v. length (drop 2 v)) f.2 in
        let s = suffixed_shorter (d ∷ z) y.1 (digits_value 16 y.0) in
        subst (λ o. Reaches o l z) (sym (number_hexadecimal (d ∷ z) e)) (inl (omega (arith, n, m, s, run_shorter is_hexadecimal (drop 2 (d ∷ z)))))

hexadecimal_longest : (d : ℕ) (ds z : Text) → are_digits 16 (d ∷ ds) ≡ true
    → Reaches (read_number (0x30 ∷ 0x78 ∷ d ∷ (ds ++ z))) (integer (digits_value 16 (d ∷ ds))) z
hexadecimal_longest d ds z k = subst (λ o. Reaches o l z) (sym (number_hexadecimal t k'.0)) (by (run_over_cases is_hexadecimal (d ∷ ds) z k))
  where
    t : Text
    t = 0x30 ∷ 0x78 ∷ d ∷ (ds ++ z)

    l : Lexeme
    l = integer (digits_value 16 (d ∷ ds))

    k' : (is_hexadecimal d ≡ true) × (are_digits 16 ds ≡ true)
    k' = both (is_hexadecimal d) (are_digits 16 ds) k

    y : Text × Text
    y = run is_hexadecimal (d ∷ (ds ++ z))

    by : (length y.1 < length z) ⊎ (y ≡ (d ∷ ds, z)) → Reaches (read_hexadecimal t y) l z
    by (inl s) = let m = suffixed_shorter t y.1 (digits_value 16 y.0) in inl (omega (arith, s, m))
    by (inr e) = subst (λ v. Reaches (read_hexadecimal t v) l z) (sym e) (suffixed_longest t z (digits_value 16 (d ∷ ds)))

suffix_not : (p : ℕ → Bool) (u : ℕ) → (u ∈ "uU") ≡ true → list_all (λ d. not (p d)) (0x75 ∷ 0x55 ∷ []) ≡ true → p u ≡ false
suffix_not p u e k = among_not p u (0x75 ∷ 0x55 ∷ []) e k

suffix_no_fraction : (u : ℕ) (z : Text) → (u ∈ "uU") ≡ true → begins_fraction (u ∷ z) ≡ false
suffix_no_fraction u [] e = refl
suffix_no_fraction u (c ∷ z) e = ap (λ b. b && is_decimal c) (suffix_not (λ d. d == 0x2E) u e refl)

-- an integer with a suffix is read as it is
unsigned_read : (x z : Text) (n u : ℕ) → IsInteger x n → (u ∈ "uU") ≡ true → read_number (x ++ u ∷ z) ≡ Some (unsigned (x ++ u ∷ []), z)
unsigned_read x z n u (decimal d ds k) e =
    let t = d ∷ (ds ++ u ∷ z) in
    number_decimal t (no_x d ds (u ∷ z) k (suffix_not (λ c. c == 0x78) u e refl))
    ∙ (ap (read_decimal t) (run_to is_decimal (d ∷ ds) u z k (suffix_not is_decimal u e refl))
    ∙ (ap (λ c. if c then Some (double_to t (or_else (after_fraction (u ∷ z)) (after_exponent (after_fraction (u ∷ z))))) else read_integer t (d ∷ ds) (u ∷ z) (after_exponent (u ∷ z))) (suffix_no_fraction u z e)
    ∙ (ap (λ c. read_integer t (d ∷ ds) (u ∷ z) (if c then after_exponent_sign z else None)) (suffix_not (λ c. c ∈ "eE") u e refl)
    ∙ ap Some (suffixed_is (d ∷ ds) z (digits_value 10 (d ∷ ds)) u e))))
unsigned_read x z n u (hexadecimal d ds k) e =
    let t = 0x30 ∷ 0x78 ∷ d ∷ (ds ++ u ∷ z) in
    number_hexadecimal t (both (is_hexadecimal d) (are_digits 16 ds) k).0
    ∙ (ap (read_hexadecimal t) (run_to is_hexadecimal (d ∷ ds) u z k (suffix_not is_hexadecimal u e refl))
    ∙ ap Some (suffixed_is (0x30 ∷ 0x78 ∷ d ∷ ds) z (digits_value 16 (d ∷ ds)) u e))

-- what follows a fraction, and that it ends there or further on
point_read : (whole : Text) (d : ℕ) (w : Text) → are_digits 10 whole ≡ true → is_decimal d ≡ true
    → read_number (whole ++ 0x2E ∷ d ∷ w)
    ≡ Some (double_to (whole ++ 0x2E ∷ d ∷ w) (or_else (run is_decimal w).1 (after_exponent (run is_decimal w).1)))
point_read whole d w k e =
    let t = whole ++ 0x2E ∷ d ∷ w in
    let b = 0x2E ∷ d ∷ w in
    let end : after_fraction b ≡ (run is_decimal w).1 = ap (λ x. x.1) (run_yes is_decimal d w e) in
    number_decimal t (whole_no_x whole (d ∷ w) k)
    ∙ (ap (read_decimal t) (run_to is_decimal whole 0x2E (d ∷ w) k refl)
    ∙ (ap (λ c. if c then Some (double_to t (or_else (after_fraction b) (after_exponent (after_fraction b)))) else read_integer t whole b (after_exponent b)) e
    ∙ ap (λ g. Some (double_to t (or_else g (after_exponent g)))) end))

rest_cases : (z : Text) → (length (run is_decimal z).1 < length z) ⊎ ((run is_decimal z).1 ≡ z)
rest_cases z = by (run_cases is_decimal z)
  where
    by : (length (run is_decimal z).1 < length z) ⊎ (run is_decimal z ≡ ([], z)) → (length (run is_decimal z).1 < length z) ⊎ ((run is_decimal z).1 ≡ z)
    by (inl s) = inl s
    by (inr e) = inr (ap (λ x. x.1) e)

or_else_cases : (g z : Text) → (length g < length z) ⊎ (g ≡ z) → (length (or_else g (after_exponent g)) < length z) ⊎ (or_else g (after_exponent g) ≡ z)
or_else_cases g z (inl s) = let m = or_else_shorter g in inl (omega (arith, s, m))
or_else_cases g z (inr e) = by (after_exponent g) refl
  where
    by : (o : Option Text) → after_exponent g ≡ o → (length (or_else g o) < length z) ⊎ (or_else g o ≡ z)
    by None q = inr e
    by (Some r) q = let s = power_shorter g r (exponent_sound g r q) in let n = ap length e in inl (omega (arith, s, n))

-- a run of digits before an exponent ends there
digits_to_power : (ds p z : Text) → are_digits 10 ds ≡ true → IsExponent p → run is_decimal (ds ++ (p ++ z)) ≡ (ds, p ++ z)
digits_to_power ds p z k h =
    let f = exponent_first p z h in
    ap (λ v. run is_decimal (ds ++ v)) f.2 ∙ (run_to is_decimal ds f.0 f.1 k (e_no_digit f.0 f.3) ∙ ap (λ v. (ds, v)) (sym f.2))

double_at : (t x z r : Text) → t ≡ x ++ z → read_number t ≡ Some (double_to t r) → (length r < length z) ⊎ (r ≡ z) → Reaches (read_number (x ++ z)) (double x) z
double_at t x z r seam read c =
    subst (λ o. Reaches o (double x) z) (sym (ap read_number (sym seam) ∙ (read ∙ ap (λ v. Some (double_to v r)) seam))) (double_longest x z r c)

is_double_longest : (x z : Text) → IsDouble x → Reaches (read_number (x ++ z)) (double x) z
is_double_longest x z (fraction whole d ds k h) =
    let h' = both (is_decimal d) (are_digits 10 ds) h in
    let t = whole ++ 0x2E ∷ d ∷ (ds ++ z) in
    let g = (run is_decimal z).1 in
    let end : (run is_decimal (ds ++ z)).1 ≡ g = ap (λ y. y.1) (run_over is_decimal ds z h'.1) in
    double_at t (whole ++ 0x2E ∷ d ∷ ds) z (or_else g (after_exponent g)) (sym (append_assoc whole (0x2E ∷ d ∷ ds) z))
    (point_read whole d (ds ++ z) k h'.0 ∙ ap (λ v. Some (double_to t (or_else v (after_exponent v)))) end) (or_else_cases g z (rest_cases z))
is_double_longest x z (fraction_with_exponent whole d ds p k h q) =
    let h' = both (is_decimal d) (are_digits 10 ds) h in
    let t = whole ++ 0x2E ∷ d ∷ (ds ++ (p ++ z)) in
    let end : (run is_decimal (ds ++ (p ++ z))).1 ≡ p ++ z = ap (λ y. y.1) (digits_to_power ds p z h'.1 q) in
    let inner : 0x2E ∷ d ∷ (ds ++ (p ++ z)) ≡ 0x2E ∷ d ∷ ((ds ++ p) ++ z) = ap (λ v. 0x2E ∷ d ∷ v) (sym (append_assoc ds p z)) in
    double_at t (whole ++ 0x2E ∷ d ∷ (ds ++ p)) z (run is_decimal z).1 (ap (λ v. whole ++ v) inner ∙ sym (append_assoc whole (0x2E ∷ d ∷ (ds ++ p)) z))
    (point_read whole d (ds ++ (p ++ z)) k h'.0
    ∙ (ap (λ v. Some (double_to t (or_else v (after_exponent v)))) end ∙ ap (λ o. Some (double_to t (or_else (p ++ z) o))) (exponent_read p z q)))
    (rest_cases z)
is_double_longest x z (with_exponent d ds p k q) =
    let t = d ∷ (ds ++ (p ++ z)) in
    let f = exponent_first p z q in
    let e = f.0 in
    let no : (c : ℕ → Bool) → list_all (λ a. not (c a)) (0x65 ∷ 0x45 ∷ []) ≡ true → c e ≡ false = λ c m. among_not c e (0x65 ∷ 0x45 ∷ []) f.3 m in
    let plain : begins_hexadecimal t ≡ false = no_x d ds (p ++ z) k (ap begins_with_x f.2 ∙ no (λ a. a == 0x78) refl) in
    let whole : begins_fraction (p ++ z) ≡ false = ap begins_fraction f.2 ∙ no_point e f.1 (no (λ a. a == 0x2E) refl) in
    double_at t (d ∷ (ds ++ p)) z (run is_decimal z).1 (ap (λ v. d ∷ v) (sym (append_assoc ds p z)))
    (number_decimal t plain
    ∙ (ap (read_decimal t) (digits_to_power (d ∷ ds) p z k q)
    ∙ (ap (λ c. if c then Some (double_to t (or_else (after_fraction (p ++ z)) (after_exponent (after_fraction (p ++ z))))) else read_integer t (d ∷ ds) (p ++ z) (after_exponent (p ++ z))) whole
    ∙ ap (read_integer t (d ∷ ds) (p ++ z)) (exponent_read p z q))))
    (rest_cases z)
  where
    no_point : (e : ℕ) (u : Text) → (e == 0x2E) ≡ false → begins_fraction (e ∷ u) ≡ false
    no_point e [] h = refl
    no_point e (c ∷ u) h = ap (λ b. b && is_decimal c) h

integer_longest : (x z : Text) (n : ℕ) → IsInteger x n → Reaches (read_number (x ++ z)) (integer n) z
integer_longest x z n (decimal d ds k) = decimal_longest d ds z k
integer_longest x z n (hexadecimal d ds k) = hexadecimal_longest d ds z k

pub number_longest : Longest read_number IsNumber
number_longest x z l (an_integer y n h) = integer_longest y z n h
number_longest x z l (an_unsigned y n u h e) =
    subst (λ o. Reaches o (unsigned (y ++ u ∷ [])) z) (sym (ap read_number (append_assoc y (u ∷ []) z) ∙ unsigned_read y z n u h e)) (inr refl)
number_longest x z l (a_double y h) = is_double_longest y z h

-- ---- numbers are no lexemes of another sort

digit_is_number : (d : ℕ) (t : Text) → is_decimal d ≡ true → begins_number (d ∷ t) ≡ true
digit_is_number d t e = ap (λ b. b || begins_fraction (d ∷ t)) e

integer_is : (x w : Text) (n : ℕ) → IsInteger x n → begins_number (x ++ w) ≡ true
integer_is x w n (decimal d ds k) = digit_is_number d (ds ++ w) (both (is_decimal d) (are_digits 10 ds) k).0
integer_is x w n (hexadecimal d ds k) = refl

point_is_number : (whole : Text) (d : ℕ) (w : Text) → are_digits 10 whole ≡ true → is_decimal d ≡ true → begins_number (whole ++ 0x2E ∷ d ∷ w) ≡ true
point_is_number [] d w k e = e
point_is_number (c ∷ whole) d w k e = digit_is_number c (whole ++ 0x2E ∷ d ∷ w) (both (is_decimal c) (are_digits 10 whole) k).0

pub number_is : (x : Text) (l : Lexeme) → IsNumber x l → begins_number x ≡ true
number_is x l (an_integer y n h) = ap begins_number (sym (append-nil y)) ∙ integer_is y [] n h
number_is x l (an_unsigned y n u h e) = integer_is y (u ∷ []) n h
number_is x l (a_double y (fraction whole d ds k h)) = point_is_number whole d ds k (both (is_decimal d) (are_digits 10 ds) h).0
number_is x l (a_double y (fraction_with_exponent whole d ds p k h q)) = point_is_number whole d (ds ++ p) k (both (is_decimal d) (are_digits 10 ds) h).0
number_is x l (a_double y (with_exponent d ds p k q)) = digit_is_number d (ds ++ p) (both (is_decimal d) (are_digits 10 ds) k).0

-- what begins a number begins no name
pub number_no_name : (x : Text) → begins_number x ≡ true → begins_name x ≡ false
number_no_name [] h = cc
number_no_name (c ∷ t) h = by (is_decimal c) refl h
  where
    by : (b : Bool) → is_decimal c ≡ b → (b || begins_fraction (c ∷ t)) ≡ true → begins_name (c ∷ t) ≡ false
    by true e h = digit_no_name c e
    by false e h = let f = point_is (c ∷ t) h in ap begins_name f.2

-- ---- the answers of the code

-- what follows the first characters, as a slice has it
pub rest_slice : (n : ℕ) (t : Text) → take (length t - n) (drop n t) ≡ drop n t
rest_slice n t = ap (λ k. take k (drop n t)) (sym (length-drop n t)) ∙ take-length (drop n t)

pub hexadecimal_some : (t : Text) → begins_hexadecimal t ≡ true → 1 ≤ length (run is_hexadecimal (drop 2 t)).0
hexadecimal_some t h =
    let f = x_is t h in
    let e : (run is_hexadecimal (drop 2 t)).0 ≡ f.0 ∷ (run is_hexadecimal f.1).0 =
    ap (λ v. (run is_hexadecimal (drop 2 v)).0) f.2 ∙ ap (λ x. x.0) (run_yes is_hexadecimal f.0 f.1 f.3) in
    omega (arith, ap length e)

integer_some : (t ds b : Text) → 1 ≤ length ds → read_integer t ds b None ≡ Some (suffixed t (digits_value 10 ds) b)
integer_some t [] b n = absurd (omega (arith, n))
integer_some t (d ∷ ds) b n = refl

pub integer_found : (t ds b : Text) → begins_hexadecimal t ≡ false → run is_decimal t ≡ (ds, b) → begins_fraction b ≡ false → 1 ≤ length ds → after_exponent b ≡ None
    → read_number t ≡ Some (suffixed t (digits_value 10 ds) b)
integer_found t ds b x r f n e =
    number_decimal t x
    ∙ (ap (read_decimal t) r
    ∙ (ap (λ c. if c then Some (double_to t (or_else (after_fraction b) (after_exponent (after_fraction b)))) else read_integer t ds b (after_exponent b)) f
    ∙ (ap (read_integer t ds b) e ∙ integer_some t ds b n)))
