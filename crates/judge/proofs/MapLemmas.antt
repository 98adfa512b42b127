-- The elements of a list that is mapped, and that it ascends.
use Rattle.std.proofs.Common.{◌≡◌, List, [], ◌∷◌, map, refl, ap, subst, inl, inr}
use Rattle.jtree.specs.Internal.Rising.{Among, Rising}

module _ {X Y : Type 0} (h : X → Y) where
  pub among_map : (xs : List X) (y : Y) → Among (map h xs) y → (x : X) × (h x ≡ y) × Among xs x
  among_map [] y a = elim a [ ]
  among_map (x ∷ xs) y (inl e) = (x, e, inl refl)
  among_map (x ∷ xs) y (inr a) = let r = among_map xs y a in (r.0, r.1, inr r.2)

  pub map_among : (xs : List X) (x : X) → Among xs x → Among (map h xs) (h x)
  map_among [] x a = elim a [ ]
  map_among (y ∷ xs) x (inl e) = inl (ap h e)
  map_among (y ∷ xs) x (inr a) = inr (map_among xs x a)

  pub rising_map : (R : X → X → Type 0) (S : Y → Y → Type 0) → ((x y : X) → R x y → S (h x) (h y)) → (xs : List X) → Rising R xs → Rising S (map h xs)
  rising_map R S keeps [] r = tt
  rising_map R S keeps (x ∷ xs) r = (
    λ v a. let m = among_map xs v a in subst (S (h x)) m.1 (keeps x m.0 (r.0 m.0 m.2)),
    rising_map R S keeps xs r.1,
  )
