-- The lines still to come of a source, where its bytes are known; there are some whatever the bytes are.
use Rattle.std.proofs.Common.{◌≡◌, ◌⊎◌, ℕ, List, [], ◌∷◌, Option, Some, None, refl, ap, inl, inr, arith}
use Rattle.std.specs.Prelude.{◌≢◌, All, IfSome}
use Rattle.std.proofs.lemmas.Bool.{cases_lt}
use Rattle.std.proofs.lemmas.List.Elements.{All-cons, All-nil}
use Rattle.jtree.specs.Lines.{newline, IsFirstLine, AreLines}

is_newline : (b : ℕ) → (b ≡ newline) ⊎ (b ≢ newline)
is_newline b = elim (cases_lt b newline) [
  | inl below ↦ inr (λ e. omega (arith, below, e))
  | inr least ↦ elim (cases_lt newline b) [ inl above ↦ inr (λ e. omega (arith, above, e)) | inr most ↦ inl (omega (arith, least, most)) ]
]

-- the first line, with one byte more in front
longer : (b : ℕ) (bs line rest : List ℕ) → b ≢ newline → IsFirstLine bs line rest → IsFirstLine (b ∷ bs) (b ∷ line) rest
longer b bs line rest other f = record {
  some = λ e. cc;
  one = All-cons (λ c. c ≢ newline) b line other f.one;
  split = elim f.split [ inl ended ↦ inl (ap (λ l. b ∷ l) ended) | inr last ↦ inr (ap (λ l. b ∷ l) last.0, last.1) ];
}

with_byte : (b : ℕ) (bs : List ℕ) → b ≢ newline → (lines : List (List ℕ)) → AreLines bs lines → (all : List (List ℕ)) × AreLines (b ∷ bs) all
with_byte b bs other [] none = ((b ∷ []) ∷ [], ([], record { some = λ e. cc; one = All-cons (λ c. c ≢ newline) b [] other (All-nil (λ c. c ≢ newline)); split = inr (ap (λ l. b ∷ l) none, refl) }, refl))
with_byte b bs other (line ∷ lines) (rest, first, more) = ((b ∷ line) ∷ lines, (rest, longer b bs line rest other first, more))

-- bytes have lines
pub some_lines : (bytes : List ℕ) → (lines : List (List ℕ)) × AreLines bytes lines
some_lines [] = ([], refl)
some_lines (b ∷ bs) =
    let later = some_lines bs in
    elim (is_newline b) [
      | inl ends ↦ ([] ∷ later.0, (bs, record { some = λ e. cc; one = All-nil (λ c. c ≢ newline); split = inl (ap (λ c. c ∷ bs) ends) }, later.1))
      | inr other ↦ with_byte b bs other later.0 later.1
    ]

-- the lines of the bytes still to come, where they are known
abbrev pub AreComing : Option (List ℕ) → List (List ℕ) → Type 0
AreComing known lines = IfSome known (λ bytes. AreLines bytes lines)

pub some_coming : (known : Option (List ℕ)) → (lines : List (List ℕ)) × AreComing known lines
some_coming None = ([], tt)
some_coming (Some bytes) = some_lines bytes

pub some_of_feed : {F : Type 0} (remaining : F → Option (List ℕ)) (feed : Option F) → (lines : List (List ℕ)) × IfSome feed (λ f. AreComing (remaining f) lines)
some_of_feed remaining None = ([], tt)
some_of_feed remaining (Some f) = some_coming (remaining f)
