-- How the reading of a string goes on.
use Rattle.std.proofs.Common.{◌≡◌, ◌<◌, ◌∙◌, ℕ, zero, suc, List, [], ◌∷◌, ◌++◌, length, Some, None, option_map, refl, sym, ap, arith, append_assoc, append-nil}
use Rattle.cel_read.specs.Lexemes.{Text, Quoting, after_mark}
use Rattle.cel_read.specs.Internal.Reading.{Body, with_value, then_body, body_turn, read_part, read_body}

abbrev pub behind : List ℕ → Body → Body
behind vs o = option_map (λ x. (vs ++ x.0, x.1)) o

-- what the parts read so far leave to be read, after their values, is the whole
abbrev pub IsAhead : Quoting → Body → List ℕ → Text → Type 0
IsAhead q whole vs rest = (n : ℕ) × (length rest < n) × (behind vs (read_body n q rest) ≡ whole)

behind_nothing : (o : Body) → behind [] o ≡ o
behind_nothing None = refl
behind_nothing (Some x) = refl

behind_value : (vs : List ℕ) (v : ℕ) (o : Body) → behind (vs ++ v ∷ []) o ≡ behind vs (option_map (with_value v) o)
behind_value vs v None = refl
behind_value vs v (Some x) = ap (λ t. Some (t, x.1)) (append_assoc vs (v ∷ []) x.0)

pub ahead_first : (q : Quoting) (t : Text) → IsAhead q (read_body (suc (length t)) q t) [] t
ahead_first q t = (suc (length t), omega arith, behind_nothing _)

-- the closing mark
pub ahead_closed : (q : Quoting) (whole : Body) (vs : List ℕ) (t rest : Text) → after_mark q t ≡ Some rest → IsAhead q whole vs t → whole ≡ Some (vs, rest)
ahead_closed q whole vs t rest h (zero, l, e) = absurd (omega (arith, l))
ahead_closed q whole vs t rest h (suc n, l, e) =
    sym e ∙ (ap (λ o. behind vs (body_turn (read_body n q) q t o)) h ∙ ap (λ u. Some (u, rest)) (append-nil vs))

-- a part more
pub ahead_more : (q : Quoting) (whole : Body) (vs : List ℕ) (t rest : Text) (v : ℕ) → after_mark q t ≡ None → read_part q t ≡ Some (v, rest)
    → length rest < length t → IsAhead q whole vs t → IsAhead q whole (vs ++ v ∷ []) rest
ahead_more q whole vs t rest v h p s (zero, l, e) = absurd (omega (arith, l))
ahead_more q whole vs t rest v h p s (suc n, l, e) = (
  n,
  omega (arith, l, s),
  behind_value vs v (read_body n q rest)
      ∙ (ap (λ o. behind vs (then_body (read_body n q) o)) (sym p) ∙ (ap (λ o. behind vs (body_turn (read_body n q) q t o)) (sym h) ∙ e)),
)

-- no part
pub ahead_none : (q : Quoting) (whole : Body) (vs : List ℕ) (t : Text) → after_mark q t ≡ None → read_part q t ≡ None → IsAhead q whole vs t → whole ≡ None
ahead_none q whole vs t h p (zero, l, e) = absurd (omega (arith, l))
ahead_none q whole vs t h p (suc n, l, e) =
    sym e ∙ (ap (λ o. behind vs (body_turn (read_body n q) q t o)) h ∙ ap (λ o. behind vs (then_body (read_body n q) o)) p)
