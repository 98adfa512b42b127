-- What is taken of candidates, as these grow.
use Rattle.std.proofs.Common.{◌≡◌, ◌<◌, ℕ, List, [], ◌∷◌, ◌++◌, refl, sym, ap, ◌∙◌, subst, inl, inr, arith}
use Rattle.std.proofs.lemmas.List.{append_assoc, append-nil}
use Rattle.jtree.specs.Data.{Data}
use Rattle.jtree.specs.Internal.Rising.{Among, Rising}
use Rattle.schema.specs.Internal.Taken.{Taken, Adds}
use Rattle.schema.specs.Rules.Explained.{OneByOne}

taken-append : {X Y : Type 0} (P : X → Type 0) (T : X → Y → Type 0) (xs us : List X) (ys vs : List Y) → Taken P T xs ys → Taken P T us vs → Taken P T (xs ++ us) (ys ++ vs)
taken-append P T [] us ys vs none h = rw none h
taken-append P T (x ∷ xs) us ys vs (inl (y, zs, is, holds, reports, rest)) h =
    inl (y, zs ++ vs, ap (λ l. l ++ vs) is, holds, reports, taken-append P T xs us zs vs rest h)
taken-append P T (x ∷ xs) us ys vs (inr (never, rest)) h = inr (never, taken-append P T xs us ys vs rest h)

-- what is taken reports a candidate that passes
taken_each : {X Y : Type 0} (P : X → Type 0) (T : X → Y → Type 0) (xs : List X) (ys : List Y) (y : Y) → Taken P T xs ys → Among ys y → (x : X) × Among xs x × P x × T x y
taken_each P T [] ys y none a = absurd (subst (λ l. Among l y) none a)
taken_each P T (x ∷ xs) ys y (inl (z, zs, is, holds, reports, rest)) a = elim (subst (λ l. Among l y) is a) [
  | inl e ↦ (x, inl refl, holds, subst (T x) e reports)
  | inr later ↦ let f = taken_each P T xs zs y rest later in (f.0, inr f.1, f.2, f.3)
]
taken_each P T (x ∷ xs) ys y (inr (never, rest)) a = let f = taken_each P T xs ys y rest a in (f.0, inr f.1, f.2, f.3)

-- and each candidate that passes is reported
taken_all : {X Y : Type 0} (P : X → Type 0) (T : X → Y → Type 0) (xs : List X) (ys : List Y) (x : X) → Taken P T xs ys → Among xs x → P x → (y : Y) × Among ys y × T x y
taken_all P T [] ys x none a h = absurd a
taken_all P T (w ∷ xs) ys x (inl (z, zs, is, holds, reports, rest)) (inl e) h = (z, subst (λ l. Among l z) (sym is) (inl refl), subst (λ v. T v z) e reports)
taken_all P T (w ∷ xs) ys x (inl (z, zs, is, holds, reports, rest)) (inr a) h =
    let f = taken_all P T xs zs x rest a h in
    (f.0, subst (λ l. Among l f.0) (sym is) (inr f.1), f.2)
taken_all P T (w ∷ xs) ys x (inr (never, rest)) (inl e) h = absurd (never (subst P (sym e) h))
taken_all P T (w ∷ xs) ys x (inr (never, rest)) (inr a) h = taken_all P T xs ys x rest a h

-- in the order of the candidates
taken_rising : {X Y : Type 0} (P : X → Type 0) (T : X → Y → Type 0) (R : X → X → Type 0) (S : Y → Y → Type 0) (xs : List X) (ys : List Y)
    → ((u v : X) (y z : Y) → T u y → T v z → R u v → S y z) → Taken P T xs ys → Rising R xs → Rising S ys
taken_rising P T R S [] ys same none h = rw none tt
taken_rising P T R S (x ∷ xs) ys same (inl (z, zs, is, holds, reports, rest)) h =
    subst (Rising S) (sym is)
    ((λ w a. let f = taken_each P T xs zs w rest a in same x f.0 z w reports f.3 (h.0 f.0 f.1)), taken_rising P T R S xs zs same rest h.1)
taken_rising P T R S (x ∷ xs) ys same (inr (never, rest)) h = taken_rising P T R S xs ys same rest h.1

-- ---- candidates that are reported as they are

abbrev pub Same : {X : Type 0} → X → X → Type 0
Same x y = x ≡ y

pub same_each : {X : Type 0} (P : X → Type 0) (xs ys : List X) (y : X) → Taken P Same xs ys → Among ys y → Among xs y × P y
same_each P xs ys y h a =
    let f = taken_each P Same xs ys y h a in
    (subst (Among xs) f.3 f.1, subst P f.3 f.2)

pub same_all : {X : Type 0} (P : X → Type 0) (xs ys : List X) (x : X) → Taken P Same xs ys → Among xs x → P x → Among ys x
same_all P xs ys x h a holds = let f = taken_all P Same xs ys x h a holds in subst (Among ys) (sym f.2) f.1

pub same_rising : {X : Type 0} (P : X → Type 0) (R : X → X → Type 0) (xs ys : List X) → Taken P Same xs ys → Rising R xs → Rising R ys
same_rising P R xs ys h rises = taken_rising P Same R R xs ys (λ u v y z uy vz less. subst (λ x. R x z) uy (subst (R u) vz less)) h rises

-- what is taken are the candidates that pass, reported one by one
pub taken_split : {X Y : Type 0} (P : X → Type 0) (T : X → Y → Type 0) (xs : List X) (ys : List Y) → Taken P T xs ys
    → (zs : List X) × Taken P Same xs zs × OneByOne T zs ys
taken_split P T [] ys none = ([], refl, subst (OneByOne T []) (sym none) tt)
taken_split P T (x ∷ xs) ys (inl (y, zs, is, holds, reports, rest)) =
    let f = taken_split P T xs zs rest in
    (x ∷ f.0, inl (x, f.0, refl, holds, refl, f.1), subst (OneByOne T (x ∷ f.0)) (sym is) (reports, f.2))
taken_split P T (x ∷ xs) ys (inr (never, rest)) = let f = taken_split P T xs ys rest in (f.0, inr (never, f.1), f.2)

-- ---- what is added

pub adds_none : {X Y : Type 0} {Known : Data → Type 0} {P : Data → X → Type 0} {T : Data → X → Y → Type 0} (old : List Y) → Adds Known P T [] old old
adds_none old = record { more = []; grown = sym (append-nil old); are = λ raw known. refl }

pub adds_join : {X Y : Type 0} {Known Needed : Data → Type 0} {P : Data → X → Type 0} {T : Data → X → Y → Type 0} (xs us : List X) (old mid new : List Y)
    → ((raw : Data) → Known raw → Needed raw) → Adds Known P T xs old mid → Adds Needed P T us mid new → Adds Known P T (xs ++ us) old new
adds_join {P} {T} xs us old mid new enough f g = record {
  more = f.more ++ g.more;
  grown = g.grown ∙ ap (λ l. l ++ g.more) f.grown ∙ append_assoc old f.more g.more;
  are = λ raw known. taken-append (P raw) (T raw) xs us f.more g.more (f.are raw known) (g.are raw (enough raw known));
}

pub adds_one : {X Y : Type 0} {Known : Data → Type 0} {P : Data → X → Type 0} {T : Data → X → Y → Type 0} (x : X) (y : Y) (old : List Y)
    → ((raw : Data) → Known raw → P raw x × T raw x y) → Adds Known P T (x ∷ []) old (old ++ (y ∷ []))
adds_one x y old is = record { more = y ∷ []; grown = refl; are = λ raw known. let h = is raw known in inl (y, [], refl, h.0, h.1, refl) }

pub adds_nothing : {X Y : Type 0} {Known : Data → Type 0} {P : Data → X → Type 0} {T : Data → X → Y → Type 0} (x : X) (old : List Y)
    → ((raw : Data) → Known raw → P raw x → ⊥) → Adds Known P T (x ∷ []) old old
adds_nothing x old never = record { more = []; grown = sym (append-nil old); are = λ raw known. inr (never raw known, refl) }

-- ---- candidates by their numbers

-- each number is below the next one
abbrev pub Chained : {X : Type 0} → (X → ℕ) → List X → Type 0
Chained number [] = Unit {0}
Chained number (x ∷ []) = Unit {0}
Chained number (x ∷ y ∷ xs) = (number x < number y) × Chained number (y ∷ xs)

pub chain_first : {X : Type 0} (number : X → ℕ) (x : X) (xs : List X) → Chained number (x ∷ xs) → (y : X) → Among xs y → number x < number y
chain_first number x [] h y a = elim a [ ]
chain_first number x (z ∷ xs) h y (inl same) = subst (λ w. number x < number w) same h.0
chain_first number x (z ∷ xs) h y (inr a) = let later = chain_first number z xs h.1 y a in omega (arith, h.0, later)

pub chain_tail : {X : Type 0} (number : X → ℕ) (x : X) (xs : List X) → Chained number (x ∷ xs) → Chained number xs
chain_tail number x [] h = tt
chain_tail number x (y ∷ xs) h = h.1
