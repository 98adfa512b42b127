-- The place of a name, which a search finds from the first member on.
use Rattle.std.proofs.Common.{◌≡◌, ◌<◌, ℕ, zero, suc, List, [], ◌∷◌, Bool, false, refl, length, take, get_or, arith}
use Rattle.std.specs.Prelude.{All, if◌then◌else◌}
use Rattle.std.specs.declared.cmp.Ordering.TheVariants.{Less, Equal, Greater}
use Rattle.jtree.specs.MemberPlace.{IsPlace}
use Rattle.jtree.specs.Order.{text_cmp}
use Rattle.jtree.specs.declared.value.Member.{Member}

pub place_here : (present : Bool) (k : List ℕ) (xs : List Member) (i : ℕ) (x : Member) → All (λ m. text_cmp k m.name ≡ Greater) (take i xs) → i < length xs
    → x ≡ get_or xs i x → text_cmp k x.name ≡ (if present then Equal else Less) → IsPlace present k xs i
place_here present k [] i x past within is here = absurd (omega arith)
place_here present k (y ∷ xs) zero x past within is here = rw (← is) here
place_here present k (y ∷ xs) (suc i) x past within is here = (past 0 y (omega arith), place_here present k xs i x (λ j d less. past (suc j) d (omega (arith, less))) (omega arith) is here)

pub place_end : (k : List ℕ) (xs : List Member) → All (λ m. text_cmp k m.name ≡ Greater) xs → IsPlace false k xs (length xs)
place_end k [] past = (refl, refl)
place_end k (x ∷ xs) past = (past 0 x (omega arith), place_end k xs (λ j d less. past (suc j) d (omega (arith, less))))
