-- Lists that are equal have equal first elements, and equal rests.
use Rattle.std.proofs.Common.{◌≡◌, List, ◌∷◌}

pub heads : {X : Type 0} {x y : X} {xs ys : List X} → x ∷ xs ≡ y ∷ ys → x ≡ y
heads e = cc

pub tails : {X : Type 0} {x y : X} {xs ys : List X} → x ∷ xs ≡ y ∷ ys → xs ≡ ys
tails e = cc
