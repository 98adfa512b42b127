-- Lines of the bytes still to come, a part at a time.
use Rattle.std.proofs.Common.{◌≡◌, ◌≢◌, ℕ, ◌<◌, ◌≤◌, List, [], ◌∷◌, ◌++◌, length, Bool, true, false, drop, drop_of_length-le, Option, Some, None, refl, sym, ap, ◌∙◌, subst, inl, inr, arith, append_assoc, append-nil, ne_eqb, length-append}
use Rattle.std.specs.Prelude.{◌==◌, if◌then◌else◌, All, Result, Ok, Err, IfErr}
use Rattle.std.specs.Io.KnownBytes.{Consumes, IsAtEnd, prepend_known}
use Rattle.std.proofs.KnownBytes.{Consumes-trans}
use Rattle.std.proofs.lemmas.Bool.Decides.{eqb_tells}
use Rattle.std.proofs.lemmas.List.Elements.{All-append, All-cons, All-head, All-tail, All-nil}
use Rattle.jtree.specs.Internal.LineParts.{left, TakesPart}
use Rattle.jtree.specs.Lines.{newline, IsFirstLine, AreLines, TakesLine, TakesLongLine}
use Rattle.jtree.specs.Reads.{most_bytes}

abbrev pub NoNewline : List ℕ → Type 0
NoNewline line = All (λ b. b ≢ newline) line

-- ---- of known bytes

cons_some : (b : ℕ) (bs : List ℕ) → b ∷ bs ≢ []
cons_some b bs e = cc

append_some : (xs : List ℕ) (b : ℕ) (bs : List ℕ) → xs ++ b ∷ bs ≢ []
append_some [] b bs e = cc
append_some (x ∷ xs) b bs e = cc

-- a front without a newline, and the first line of what comes after it
onto_front : (front bytes line rest : List ℕ) → NoNewline front → IsFirstLine bytes line rest → IsFirstLine (front ++ bytes) (front ++ line) rest
onto_front front bytes line rest none f = record {
  some = λ e. f.some (back front bytes e);
  one = All-append (λ b. b ≢ newline) front line none f.one;
  split = elim f.split [
    | inl ended ↦ inl (ap (λ bs. front ++ bs) ended ∙ sym (append_assoc front line (newline ∷ rest)))
    | inr last ↦ inr (ap (λ bs. front ++ bs) last.0, last.1)
  ];
}
  where
    back : (xs ys : List ℕ) → xs ++ ys ≡ [] → ys ≡ []
    back [] ys e = e
    back (x ∷ xs) ys e = cc

none_in : NoNewline []
none_in = All-nil (λ b. b ≢ newline)

one_in : (b : ℕ) → b ≢ newline → NoNewline (b ∷ [])
one_in b other = All-cons (λ c. c ≢ newline) b [] other none_in

empty_line : (b : ℕ) (bs : List ℕ) → b ≡ newline → IsFirstLine (b ∷ bs) [] bs
empty_line b bs same = record { some = cons_some b bs; one = none_in; split = inl (ap (λ c. c ∷ bs) same) }

first_line : (b : ℕ) (bs : List ℕ) → (line : List ℕ) × (rest : List ℕ) × IsFirstLine (b ∷ bs) line rest
first_line b [] = elim (eqb_tells b newline) [
  | inl same ↦ ([], [], empty_line b [] same.1)
  | inr other ↦ (b ∷ [], [], record { some = cons_some b []; one = one_in b other.1; split = inr (refl, refl) })
]
first_line b (c ∷ bs) =
    let next = first_line c bs in
    elim (eqb_tells b newline) [
      | inl same ↦ ([], c ∷ bs, empty_line b (c ∷ bs) same.1)
      | inr other ↦ (b ∷ next.0, next.1, onto_front (b ∷ []) (c ∷ bs) next.0 next.1 (one_in b other.1) next.2)
    ]

-- the bytes before the first newline, and those after it
before : List ℕ → List ℕ
before [] = []
before (b ∷ bs) = if b == newline then [] else b ∷ before bs

after : List ℕ → List ℕ
after [] = []
after (b ∷ bs) = if b == newline then bs else after bs

ended_at : (line rest : List ℕ) → NoNewline line → (before (line ++ newline ∷ rest) ≡ line) × (after (line ++ newline ∷ rest) ≡ rest)
unfolding before after
ended_at [] rest none = (refl, refl)
ended_at (b ∷ line) rest none =
    let other = ne_eqb b newline (All-head (λ c. c ≢ newline) b line none) in
    let next = ended_at line rest (All-tail (λ c. c ≢ newline) b line none) in
    (rw other (ap (λ l. b ∷ l) next.0), rw other next.1)

without : (line : List ℕ) → NoNewline line → (before line ≡ line) × (after line ≡ [])
unfolding before after
without [] none = (refl, refl)
without (b ∷ line) none =
    let other = ne_eqb b newline (All-head (λ c. c ≢ newline) b line none) in
    let next = without line (All-tail (λ c. c ≢ newline) b line none) in
    (rw other (ap (λ l. b ∷ l) next.0), rw other next.1)

known_line : (bytes line rest : List ℕ) → IsFirstLine bytes line rest → (before bytes ≡ line) × (after bytes ≡ rest)
known_line bytes line rest f = elim f.split [
  | inl ended ↦ let e = ended_at line rest f.one in (ap before ended ∙ e.0, ap after ended ∙ e.1)
  | inr last ↦ let e = without line f.one in (ap before last.0 ∙ e.0, ap after last.0 ∙ (e.1 ∙ sym last.1))
]

pub same_lines : (bytes : List ℕ) (lines others : List (List ℕ)) → AreLines bytes lines → AreLines bytes others → lines ≡ others
same_lines bytes [] [] a b = refl
same_lines bytes [] (other ∷ others) a b = absurd (b.1.some a)
same_lines bytes (line ∷ lines) [] a b = absurd (a.1.some b)
same_lines bytes (line ∷ lines) (other ∷ others) a b =
    let one = known_line bytes line a.0 a.1 in
    let two = known_line bytes other b.0 b.1 in
    let rest : b.0 ≡ a.0 = sym two.1 ∙ one.1 in
    let more = same_lines a.0 lines others a.2 (subst (λ r. AreLines r others) rest b.2) in
    λ i. (sym one.0 ∙ two.0) i ∷ more i

-- ---- of the bytes still to come, where they are known

-- bytes of the piece were taken
pub part_taken : (a b : Option (List ℕ)) (line part rest : List ℕ) → Consumes a (prepend_known (part ++ rest) b) line → Consumes a (prepend_known rest b) (line ++ part)
part_taken None b line part rest c = tt
part_taken (Some x) None line part rest c = absurd c
part_taken (Some x) (Some y) line part rest c = c ∙ (ap (λ l. line ++ l) (append_assoc part rest y) ∙ sym (append_assoc line part (rest ++ y)))

-- a newline was met
pub line_taken : (a b : Option (List ℕ)) (line part left rest : List ℕ) → left ≡ part ++ newline ∷ rest → Consumes a (prepend_known left b) line → NoNewline line → NoNewline part
    → TakesLine a (prepend_known rest b) (line ++ part)
line_taken None b line part left rest is c none one = tt
line_taken (Some x) None line part left rest is c none one = absurd c
line_taken (Some x) (Some y) line part left rest is c none one =
    let whole : x ≡ (line ++ part) ++ newline ∷ (rest ++ y) =
    c ∙ (ap (λ l. line ++ (l ++ y)) is ∙ (ap (λ l. line ++ l) (append_assoc part (newline ∷ rest) y) ∙ sym (append_assoc line part (newline ∷ (rest ++ y))))) in
    record {
      some = λ e. append_some (line ++ part) newline (rest ++ y) (sym whole ∙ e);
      one = All-append (λ b. b ≢ newline) line part none one;
      split = inl whole;
    }

-- no byte is left, and none was taken
pub nothing_taken : (a b : Option (List ℕ)) (at : ℕ) (piece line : List ℕ) → Consumes a (left at piece b) line → drop at piece ≡ [] → IsAtEnd b → line ≡ [] → IsAtEnd a × IsAtEnd (left at piece b)
nothing_taken None None at piece line c gone end none = (tt, tt)
nothing_taken None (Some y) at piece line c gone end none = (tt, ap (λ l. l ++ y) gone ∙ end)
nothing_taken (Some x) None at piece line c gone end none = absurd c
nothing_taken (Some x) (Some y) at piece line c gone end none = let rest = ap (λ l. l ++ y) gone ∙ end in (c ∙ (ap (λ l. l ++ (drop at piece ++ y)) none ∙ rest), rest)

-- all bytes are taken, and no newline is among them
end_taken : (a b : Option (List ℕ)) (at : ℕ) (piece line : List ℕ) → Consumes a (left at piece b) line → drop at piece ≡ [] → IsAtEnd b → line ≢ [] → NoNewline line → TakesLine a (left at piece b) line
end_taken None b at piece line c gone end some none = tt
end_taken (Some x) None at piece line c gone end some none = absurd c
end_taken (Some x) (Some y) at piece line c gone end some none =
    let rest = ap (λ l. l ++ y) gone ∙ end in
    let whole : x ≡ line = c ∙ (ap (λ l. line ++ l) rest ∙ append-nil line) in
    record { some = λ e. some (sym whole ∙ e); one = none; split = inr (whole, rest) }

-- a newline is taken with the bytes before it
pub newline_taken : (a b : Option (List ℕ)) (line part left rest : List ℕ) → left ≡ part ++ newline ∷ rest → Consumes a (prepend_known left b) line → Consumes a (prepend_known rest b) (line ++ (part ++ newline ∷ []))
newline_taken a b line part left rest is c =
    let split : left ≡ (part ++ newline ∷ []) ++ rest = is ∙ sym (append_assoc part (newline ∷ []) rest) in
    part_taken a b line (part ++ newline ∷ []) rest (subst (λ l. Consumes a (prepend_known l b) line) split c)

-- ---- what is left of a piece and its source, where the piece is used up

drop_all : (at : ℕ) (piece : List ℕ) → length piece ≤ at → drop at piece ≡ []
drop_all at piece past = drop_of_length-le piece past

-- a piece is read and lost
pub lost_piece : (b c : Option (List ℕ)) (at : ℕ) (piece next rest : List ℕ) → length piece ≤ at → rest ≡ [] → Consumes b c next → Consumes (left at piece b) (left 0 rest c) next
lost_piece None c at piece next rest past none q = tt
lost_piece (Some y) None at piece next rest past none q = absurd q
lost_piece (Some y) (Some z) at piece next rest past none q = rw none (ap (λ l. l ++ y) (drop_all at piece past) ∙ q)

pub where_err : {T E : Type 0} (r : Result T E) (P : E → Type 0) → ((e : E) → P e) → IfErr r P
where_err (Ok v) P h = tt
where_err (Err e) P h = h e

-- ---- a newline was met

module _ (a b now : Option (List ℕ)) (same : now ≡ b) where
  pub met_line : (met : Bool) (ahead rest line line_now : List ℕ) → met ≡ true → Consumes a (prepend_known ahead b) line → NoNewline line → TakesPart met ahead rest line line_now
      → TakesLine a (prepend_known rest now) line_now
  met_line true ahead rest line line_now e c none p = rw (same, p.line_is) (line_taken a b line p.part ahead rest p.adds c none p.one)
  met_line false ahead rest line line_now e c none p = cc

  pub met_taken : (met : Bool) (ahead rest line line_now : List ℕ) → met ≡ true → Consumes a (prepend_known ahead b) line → TakesPart met ahead rest line line_now
      → (taken : List ℕ) × Consumes a (prepend_known rest now) taken
  met_taken true ahead rest line line_now e c p = (line ++ (p.part ++ newline ∷ []), rw same (newline_taken a b line p.part ahead rest p.adds c))
  met_taken false ahead rest line line_now e c p = cc

-- ---- a line that is too long

long_some : (line : List ℕ) → most_bytes < length line → line ≢ []
long_some [] long e = omega (arith, long)
long_some (b ∷ line) long e = cc

-- up to the end
pub long_to_end : (a b : Option (List ℕ)) (at : ℕ) (piece line : List ℕ) → Consumes a (left at piece b) line → drop at piece ≡ [] → IsAtEnd b → NoNewline line → most_bytes < length line → TakesLongLine a (left at piece b)
long_to_end a b at piece line c gone end none long = (line, end_taken a b at piece line c gone end (long_some line long) none, long)

-- up to the next newline
pub long_to_newline : (a b now : Option (List ℕ)) → now ≡ b → (met : Bool) (ahead rest line line_now : List ℕ) → met ≡ true → Consumes a (prepend_known ahead b) line → NoNewline line → TakesPart met ahead rest line line_now
    → most_bytes < length line_now → TakesLongLine a (prepend_known rest now)
long_to_newline a b now same met ahead rest line line_now e c none p long = (line_now, met_line a b now same met ahead rest line line_now e c none p, long)

-- so many bytes of the line are taken that no newline was among
abbrev pub HasSkipped : Option (List ℕ) → Option (List ℕ) → Type 0
HasSkipped a b = (skipped : List ℕ) × (NoNewline skipped × Consumes a b skipped)

-- a part without a newline is one of them
pub skipped_more : (a b now : Option (List ℕ)) → now ≡ b → (met : Bool) (ahead rest before after : List ℕ) → met ≡ false → HasSkipped a (prepend_known ahead b) → TakesPart met ahead rest before after
    → HasSkipped a (prepend_known rest now)
skipped_more a b now same true ahead rest before after e h p = cc
skipped_more a b now same false ahead rest before after e h p =
    let whole : ahead ≡ p.part ++ rest = p.adds.0 ∙ (sym (append-nil p.part) ∙ ap (λ r. p.part ++ r) (sym p.adds.1)) in (
      h.0 ++ p.part,
      (All-append (λ b. b ≢ newline) h.0 p.part h.1.0 p.one, rw same (part_taken a b h.0 p.part rest (subst (λ l. Consumes a (prepend_known l b) h.0) whole h.1.1))),
    )

-- what was taken of the line before is too long already
module _ (old a b : Option (List ℕ)) (front : List ℕ) (before : Consumes old a front) (none : NoNewline front) (long : most_bytes < length front) where
  pub skipped_to_end : (at : ℕ) (piece : List ℕ) → HasSkipped a (left at piece b) → drop at piece ≡ [] → IsAtEnd b → TakesLongLine old (left at piece b)
  skipped_to_end at piece h gone end =
      long_to_end old b at piece (front ++ h.0) (Consumes-trans old a (left at piece b) front h.0 before h.1.1) gone end (All-append (λ b. b ≢ newline) front h.0 none h.1.0)
      (omega (arith, long, length-append front h.0))

  pub skipped_to_newline : (now : Option (List ℕ)) → now ≡ b → (met : Bool) (ahead rest part_before part_now : List ℕ) → met ≡ true → HasSkipped a (prepend_known ahead b) → TakesPart met ahead rest part_before part_now
      → TakesLongLine old (prepend_known rest now)
  skipped_to_newline now same met ahead rest part_before part_now e h p =
      long_to_newline old b now same met ahead rest (front ++ h.0) ((front ++ h.0) ++ p.part) e (Consumes-trans old a (prepend_known ahead b) front h.0 before h.1.1) (All-append (λ b. b ≢ newline) front h.0 none h.1.0)
      (record { part = p.part; line_is = refl; one = p.one; adds = p.adds }) (omega (arith, long, length-append front h.0, length-append (front ++ h.0) p.part))
