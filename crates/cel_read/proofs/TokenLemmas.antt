-- The tokens of a text, one after another.
use Rattle.std.proofs.Common.{◌≡◌, ◌<◌, ◌≤◌, ◌∙◌, ◌-◌, ℕ, true, false, List, [], ◌∷◌, ◌++◌, length, drop, Option, Some, None, refl, sym, ap, subst, arith, append_assoc}
use Rattle.std.proofs.lemmas.List.{length-append}
use Rattle.std.proofs.Math.Seq.{drop-append_seam}
use Rattle.cel_read.specs.Lexemes.{Text, Lexeme, blank, integer, string}
use Rattle.cel_read.specs.Tokens.{IsNext, is_token, Reads, nothing, a_blank, a_token, AreTokens, IsReached, NoneBegins, IsFault, HasNoTokens}
use Rattle.cel_read.specs.declared.fault.LexFault.{LexFault}
use Rattle.cel_read.specs.declared.fault.LexFault.TheVariants.{NoLexeme, IntegerTooLarge, NoCodePoint, NoMemory}
use Rattle.cel_read.specs.Internal.Reading.{read_lexeme}
use Rattle.cel_read.specs.declared.token.Token.{Token}
use Rattle.cel_read.specs.Internal.Kept.{IsKept, IsRefused, kept}
use Rattle.cel_read.proofs.Readers.{at, some_is}
use Rattle.cel_read.proofs.LexemeLemmas.{lexeme_some, next_read, none_read, read_next}

-- a lexeme more
pub reads_blank : (t : Text) (ls : List Lexeme) (here rest : Text) → Reads t ls here → IsNext here blank rest → Reads t ls rest
reads_blank t ls here rest (nothing u) n = a_blank u rest rest [] n (nothing rest)
reads_blank t ls here rest (a_blank u v w ms m h) n = a_blank u v rest ms m (reads_blank v ms w rest h n)
reads_blank t ls here rest (a_token u v w l ms m k h) n = a_token u v rest l ms m k (reads_blank v ms w rest h n)

pub reads_token : (t : Text) (ls : List Lexeme) (here rest : Text) (l : Lexeme) → Reads t ls here → IsNext here l rest → is_token l ≡ true → Reads t (ls ++ l ∷ []) rest
reads_token t ls here rest l (nothing u) n k = a_token u rest rest l [] n k (nothing rest)
reads_token t ls here rest l (a_blank u v w ms m h) n k = a_blank u v rest (ms ++ l ∷ []) m (reads_token v ms w rest l h n k)
reads_token t ls here rest l (a_token u v w o ms m j h) n k = a_token u v rest o (ms ++ l ∷ []) m j (reads_token v ms w rest l h n k)

-- what is left ends the text
left_is : (t : Text) (ls : List Lexeme) (rest : Text) → Reads t ls rest → (front : Text) × (t ≡ front ++ rest)
left_is t ls rest (nothing u) = ([], refl)
left_is t ls rest (a_blank u v w ms m h) =
    let r = left_is v ms w h in (m.spelling ++ r.0, m.cut ∙ (ap (λ x. m.spelling ++ x) r.1 ∙ sym (append_assoc m.spelling r.0 w)))
left_is t ls rest (a_token u v w l ms m k h) =
    let r = left_is v ms w h in (m.spelling ++ r.0, m.cut ∙ (ap (λ x. m.spelling ++ x) r.1 ∙ sym (append_assoc m.spelling r.0 w)))

pub left_shorter : (t : Text) (ls : List Lexeme) (rest : Text) → Reads t ls rest → length rest ≤ length t
left_shorter t ls rest h = let r = left_is t ls rest h in omega (arith, ap length r.1, length-append r.0 rest)

-- the place of what is left
left_at : (t : Text) (ls : List Lexeme) (rest : Text) → Reads t ls rest → drop (length t - length rest) t ≡ rest
left_at t ls rest h =
    let r = left_is t ls rest h in
    let n : length t - length rest ≡ length r.0 = omega (arith, ap length r.1, length-append r.0 rest) in
    ap (λ k. drop k t) n ∙ (ap (drop (length r.0)) r.1 ∙ drop-append_seam r.0 rest)

-- ---- two readings go the same way

same_next : (t : Text) (l m : Lexeme) (a b : Text) → IsNext t l a → IsNext t m b → (l ≡ m) × (a ≡ b)
same_next t l m a b n o =
    let q : at l a ≡ at m b = some_is (at l a) (at m b) (sym (read_next t l a n) ∙ read_next t m b o) in
    (ap (λ w. w.0) q, ap (λ w. w.1) q)

no_next : (l : Lexeme) (rest : Text) → IsNext [] l rest → ⊥
no_next l rest n = let e : read_lexeme [] ≡ Some (l, rest) = read_next [] l rest n in cc

after_next : (u v : Text) (l : Lexeme) → IsNext u l v → (all : List Lexeme) (left : Text) → Reads u all left → left ≡ [] → (more : List Lexeme) × AreTokens v more
after_next u v l n all left (nothing x) e = absurd (no_next l v (subst (λ t. IsNext t l v) e n))
after_next u v l n all left (a_blank x y z ms m h) e =
    let s = same_next x blank l y v m n in
    (ms, subst (λ t. Reads t ms []) s.1 (subst (Reads y ms) e h))
after_next u v l n all left (a_token x y z o ms m j h) e =
    let s = same_next x o l y v m n in
    (ms, subst (λ t. Reads t ms []) s.1 (subst (Reads y ms) e h))

-- the tokens of the whole go on after those that were read
goes_on : (t : Text) (ls : List Lexeme) (rest : Text) → Reads t ls rest → (all : List Lexeme) → AreTokens t all → (more : List Lexeme) × AreTokens rest more
goes_on t ls rest (nothing u) all k = (all, k)
goes_on t ls rest (a_blank u v w ms m h) all k = let r = after_next u v blank m all [] k refl in goes_on v ms w h r.0 r.1
goes_on t ls rest (a_token u v w l ms m j h) all k = let r = after_next u v l m all [] k refl in goes_on v ms w h r.0 r.1

-- ---- a text has one list of tokens

nothing_left : (t left : Text) (ls : List Lexeme) → Reads t ls left → t ≡ [] → [] ≡ ls
nothing_left t left ls (nothing x) e = refl
nothing_left t left ls (a_blank x y z ms m h) e = absurd (no_next blank y (subst (λ u. IsNext u blank y) e m))
nothing_left t left ls (a_token x y z o ms m j h) e = absurd (no_next o y (subst (λ u. IsNext u o y) e m))

after_blank : (u v left : Text) (all : List Lexeme) → IsNext u blank v → Reads u all left → left ≡ [] → Reads v all []
after_blank u v left all n (nothing x) e = absurd (no_next blank v (subst (λ t. IsNext t blank v) e n))
after_blank u v left all n (a_blank x y z ms m h) e = subst (λ t. Reads t ms []) (same_next x blank blank y v m n).1 (subst (Reads y ms) e h)
after_blank u v left all n (a_token x y z o ms m j h) e =
    let i : is_token o ≡ false = ap is_token (same_next x o blank y v m n).0 in
    cc

after_token : (u v left : Text) (l : Lexeme) (all : List Lexeme) → IsNext u l v → is_token l ≡ true → Reads u all left → left ≡ []
    → (more : List Lexeme) × (l ∷ more ≡ all) × Reads v more []
after_token u v left l all n k (nothing x) e = absurd (no_next l v (subst (λ t. IsNext t l v) e n))
after_token u v left l all n k (a_blank x y z ms m h) e =
    let i : is_token l ≡ false = ap is_token (same_next x l blank v y n m).0 in
    cc
after_token u v left l all n k (a_token x y z o ms m j h) e =
    let s = same_next x o l y v m n in
    (ms, ap (λ p. p ∷ ms) (sym s.0), subst (λ t. Reads t ms []) s.1 (subst (Reads y ms) e h))

pub same_tokens : (t : Text) (ls : List Lexeme) (left : Text) → Reads t ls left → left ≡ [] → (all : List Lexeme) → AreTokens t all → ls ≡ all
same_tokens t ls left (nothing u) e all k = nothing_left u [] all k e
same_tokens t ls left (a_blank u v w ms m h) e all k = same_tokens v ms w h e all (after_blank u v [] all m k refl)
same_tokens t ls left (a_token u v w l ms m j h) e all k =
    let a = after_token u v [] l all m j k refl in
    ap (λ x. l ∷ x) (same_tokens v ms w h e a.0 a.2) ∙ a.1

-- ---- faults

-- where no lexeme begins, no tokens are
none_at : (rest : Text) → 0 < length rest → read_lexeme rest ≡ None → (more : List Lexeme) (left : Text) → Reads rest more left → left ≡ [] → ⊥
none_at rest s h more left (nothing x) e = let n = ap length e in omega (arith, s, n)
none_at rest s h more left (a_blank x y z ms m k) e = let r = read_next x blank y m in cc
none_at rest s h more left (a_token x y z o ms m j k) e = let r = read_next x o y m in cc

-- nor after a lexeme that is refused
refused_at : (rest v : Text) (l : Lexeme) → IsNext rest l v → (l ≡ blank → ⊥) → is_token l ≡ false → (more : List Lexeme) (left : Text) → Reads rest more left → left ≡ [] → ⊥
refused_at rest v l n b f more left (nothing x) e = no_next l v (subst (λ t. IsNext t l v) e n)
refused_at rest v l n b f more left (a_blank x y z ms m k) e = b (same_next x l blank v y n m).0
refused_at rest v l n b f more left (a_token x y z o ms m j k) e =
    let s : l ≡ o = (same_next x l o v y n m).0 in
    let i : is_token o ≡ false = ap is_token (sym s) ∙ f in
    cc

abbrev Place : Text → Text → ℕ → Type 0
Place t rest p = p ≡ length t - length rest

reached : (t rest : Text) (ls : List Lexeme) (p : ℕ) → Reads t ls rest → 0 < length rest → Place t rest p → IsReached t p
reached t rest ls p h s e = (omega (arith, s, e, left_shorter t ls rest h), (ls, subst (Reads t ls) (sym (ap (λ k. drop k t) e ∙ left_at t ls rest h)) h))

place_is : (t rest : Text) (ls : List Lexeme) (p : ℕ) → Reads t ls rest → Place t rest p → rest ≡ drop p t
place_is t rest ls p h e = sym (ap (λ k. drop k t) e ∙ left_at t ls rest h)

pub no_lexeme : (t rest : Text) (ls : List Lexeme) (p : ℕ) → Reads t ls rest → 0 < length rest → Place t rest p → read_lexeme rest ≡ None → IsFault t (NoLexeme p)
no_lexeme t rest ls p h s e r = (reached t rest ls p h s e, subst NoneBegins (place_is t rest ls p h e) (none_read rest r))

pub no_lexeme_no_tokens : (t rest : Text) (ls : List Lexeme) (p : ℕ) → Reads t ls rest → 0 < length rest → read_lexeme rest ≡ None → HasNoTokens t (NoLexeme p)
no_lexeme_no_tokens t rest ls p h s r all k = let g = goes_on t ls rest h all k in none_at rest s r g.0 [] g.1 refl

pub refused : (t rest v : Text) (ls : List Lexeme) (l : Lexeme) (p : ℕ) (f : LexFault) → Reads t ls rest → 0 < length rest → Place t rest p → read_lexeme rest ≡ Some (l, v)
    → IsRefused l p f → IsFault t f
refused t rest v ls l p (NoLexeme q) h s e r k = absurd k
refused t rest v ls l p (IntegerTooLarge q) h s e r k =
    let same : p ≡ q = sym k.0 in
    let n : IsNext (drop p t) l v = subst (λ u. IsNext u l v) (place_is t rest ls p h e) (next_read rest l v r) in
    subst (λ q. IsFault t (IntegerTooLarge q)) same (reached t rest ls p h s e, (k.1.0, v, subst (λ m. IsNext (drop p t) m v) k.1.1 n, k.1.2))
refused t rest v ls l p (NoCodePoint q) h s e r k =
    let same : p ≡ q = sym k.0 in
    let n : IsNext (drop p t) l v = subst (λ u. IsNext u l v) (place_is t rest ls p h e) (next_read rest l v r) in
    subst (λ q. IsFault t (NoCodePoint q)) same (reached t rest ls p h s e, (k.1.0, v, subst (λ m. IsNext (drop p t) m v) k.1.1 n, k.1.2))
refused t rest v ls l p NoMemory h s e r k = tt

pub refused_no_tokens : (t rest v : Text) (ls : List Lexeme) (l : Lexeme) (p : ℕ) (f : LexFault) → Reads t ls rest → read_lexeme rest ≡ Some (l, v) → IsRefused l p f → HasNoTokens t f
refused_no_tokens t rest v ls l p (NoLexeme q) h r k = absurd k
refused_no_tokens t rest v ls l p (IntegerTooLarge q) h r k = λ all j.
    let g = goes_on t ls rest h all j in
    let other : integer k.1.0 ≡ blank → ⊥ = λ i. cc in
    refused_at rest v (integer k.1.0) (subst (λ m. IsNext rest m v) k.1.1 (next_read rest l v r)) other k.1.2 g.0 [] g.1 refl
refused_no_tokens t rest v ls l p (NoCodePoint q) h r k = λ all j.
    let g = goes_on t ls rest h all j in
    let other : string k.1.0 ≡ blank → ⊥ = λ i. cc in
    refused_at rest v (string k.1.0) (subst (λ m. IsNext rest m v) k.1.1 (next_read rest l v r)) other k.1.2 g.0 [] g.1 refl
refused_no_tokens t rest v ls l p NoMemory h r k = tt

-- ---- the loop of the code

pub kept_more : (t rest v : Text) (ls : List Lexeme) (l : Lexeme) (o : Option Token) → Reads t ls rest → read_lexeme rest ≡ Some (l, v) → IsKept l o → Reads t (kept ls o) v
kept_more t rest v ls l None h r k = reads_blank t ls rest v h (subst (λ m. IsNext rest m v) k (next_read rest l v r))
kept_more t rest v ls l (Some token) h r k =
    subst (λ m. Reads t (ls ++ m ∷ []) v) (sym k.0) (reads_token t ls rest v l h (next_read rest l v r) k.1)

pub read_shorter : (t : Text) (l : Lexeme) (rest : Text) → read_lexeme t ≡ Some (l, rest) → length rest < length t
read_shorter t l rest h =
    let n = next_read t l rest h in
    omega (arith, ap length n.cut, length-append n.spelling rest, lexeme_some n.spelling l n.lexeme)
