-- An index of versions by their names.
use Rattle.std.proofs.Common.{◌≡◌, ◌⊎◌, ◌<◌, ◌+◌, ℕ, zero, suc, List, [], ◌∷◌, ◌++◌, length, get_or, take, drop, Bool, true, false, Option, Some, None, refl, sym, ap, ◌∙◌, subst, inl, inr, arith}
use Rattle.std.specs.Prelude.{option_map, is_some, cond, if◌then◌else◌}
use Rattle.std.specs.Str.{bytes_eq}
use Rattle.std.proofs.lemmas.Option.{same_Some}
use Rattle.std.proofs.lemmas.List.{take-append-drop, drop_more}
use Rattle.jtree.specs.Data.{Data, text, no_items}
use Rattle.jtree.specs.Path.{item_at}
use Rattle.jtree.specs.View.{data_of, items_of}
use Rattle.jtree.specs.declared.value.Tree.{Tree}
use Rattle.schema.specs.Document.Crd.{IsNamed, IsVersion, AreVersions}
use Rattle.schema.specs.Internal.Versions.{IsSelected}
use Rattle.jtree.specs.Internal.Lookups.{bool_cases, same_name, own_name}

pub record IsIndex (xs : List Tree) (look : List ℕ → Option Data) : Type 0 where
  pub versions : AreVersions (items_of xs)
  pub some : (s : List ℕ) (v : Data) → look s ≡ Some v → IsVersion (items_of xs) s v
  pub none : (s : List ℕ) → look s ≡ None → (v : Data) → IsVersion (items_of xs) s v → ⊥

pub no_index : (look : List ℕ → Option Data) → ((s : List ℕ) → look s ≡ None) → IsIndex [] look
no_index look h = record {
  versions = record { named = λ i v at. absurd (nothing_at i v at); distinct = λ i j v w s at. absurd (nothing_at i v at) };
  some = λ s v found. let none = h s in cc;
  none = λ s none v is. nothing_at is.0 v is.1;
} where
  nothing_at : (i : ℕ) (v : Data) → item_at i no_items ≡ Some v → ⊥
  nothing_at zero v at = cc
  nothing_at (suc i) v at = cc

-- ---- one more item

kept_at : (xs ys : List Tree) (i : ℕ) (v : Data) → item_at i (items_of xs) ≡ Some v → item_at i (items_of (xs ++ ys)) ≡ Some v
kept_at [] ys zero v at = cc
kept_at [] ys (suc i) v at = cc
kept_at (x ∷ xs) ys zero v at = at
kept_at (x ∷ xs) ys (suc i) v at = kept_at xs ys i v at

pub new_at : (xs ys : List Tree) (t : Tree) → item_at (length xs) (items_of (xs ++ t ∷ ys)) ≡ Some (data_of t)
new_at [] ys t = refl
new_at (x ∷ xs) ys t = new_at xs ys t

at_within : (xs : List Tree) (i : ℕ) (v : Data) → item_at i (items_of xs) ≡ Some v → i < length xs
at_within [] zero v at = cc
at_within [] (suc i) v at = cc
at_within (x ∷ xs) zero v at = omega arith
at_within (x ∷ xs) (suc i) v at = let h = at_within xs i v at in omega arith

push_cases : (xs : List Tree) (t : Tree) (i : ℕ) (v : Data) → item_at i (items_of (xs ++ t ∷ [])) ≡ Some v
    → (item_at i (items_of xs) ≡ Some v) ⊎ ((i ≡ length xs) × (data_of t ≡ v))
push_cases [] t zero v at = inr (refl, same_Some _ v at)
push_cases [] t (suc zero) v at = cc
push_cases [] t (suc (suc i)) v at = cc
push_cases (x ∷ xs) t zero v at = inl at
push_cases (x ∷ xs) t (suc i) v at = elim (push_cases xs t i v at) [
  | inl old ↦ inl old
  | inr new ↦ inr (ap suc new.0, new.1)
]

same_text : (v : Data) (s r : List ℕ) → IsNamed v s → IsNamed v r → s ≡ r
same_text v s r p q = let same : text s ≡ text r = same_Some _ _ (sym p ∙ q) in cc

pub index_push : (xs : List Tree) (t : Tree) (s : List ℕ) (look more : List ℕ → Option Data) → IsIndex xs look → IsNamed (data_of t) s → look s ≡ None
    → ((r : List ℕ) → more r ≡ (if bytes_eq s r then Some (data_of t) else look r)) → IsIndex (xs ++ t ∷ []) more
index_push xs t s look more h is none updated = record {
  versions = record {
    named = λ i v at. elim (push_cases xs t i v at) [
      | inl old ↦ h.versions.named i v old
      | inr new ↦ (s, subst (λ w. IsNamed w s) new.1 is)
    ];
    distinct = λ i j v w r at bt p q. elim (push_cases xs t i v at) [
      | inl old ↦ elim (push_cases xs t j w bt) [
        | inl too ↦ h.versions.distinct i j v w r old too p q
        | inr new ↦
            let same : s ≡ r = same_text (data_of t) s r is (subst (λ d. IsNamed d r) (sym new.1) q) in
            absurd (h.none s none v (i, old, subst (λ n. IsNamed v n) (sym same) p))
      ]
      | inr new ↦ elim (push_cases xs t j w bt) [
        | inl too ↦
            let same : s ≡ r = same_text (data_of t) s r is (subst (λ d. IsNamed d r) (sym new.1) p) in
            absurd (h.none s none w (j, too, subst (λ n. IsNamed w n) (sym same) q))
        | inr also ↦ new.0 ∙ sym also.0
      ]
    ];
  };
  some = λ r v found. elim (bool_cases (bytes_eq s r)) [
    | inl hit ↦
        let here : data_of t ≡ v = same_Some _ v (rw hit at (sym (updated r) ∙ found)) in
        (length xs, new_at xs [] t ∙ ap Some here, subst (λ n. IsNamed v n) (same_name s r hit) (subst (λ w. IsNamed w s) here is))
    | inr other ↦
        let old = h.some r v (rw other at (sym (updated r) ∙ found)) in
        (old.0, kept_at xs (t ∷ []) old.0 v old.1, old.2)
  ];
  none = λ r gone v found. elim (bool_cases (bytes_eq s r)) [
    | inl hit ↦ let contrary = rw hit at (sym (updated r) ∙ gone) in cc
    | inr other ↦ elim (push_cases xs t found.0 v found.1) [
      | inl old ↦ h.none r (rw other at (sym (updated r) ∙ gone)) v (found.0, old, found.2)
      | inr new ↦
          let same : s ≡ r = same_text (data_of t) s r is (subst (λ d. IsNamed d r) (sym new.1) found.2) in
          let own : bytes_eq s r ≡ true = subst (λ n. bytes_eq s n ≡ true) same (own_name s) in
          cc
    ]
  ];
}

-- a name occurs twice
pub repeated : (xs ys : List Tree) (t : Tree) (s : List ℕ) (v : Data) (look : List ℕ → Option Data) → IsIndex xs look → IsNamed (data_of t) s → look s ≡ Some v
    → AreVersions (items_of (xs ++ t ∷ ys)) → ⊥
repeated xs ys t s v look h is found all =
    let old = h.some s v found in
    let within : old.0 < length xs = at_within xs old.0 v old.1 in
    let same : old.0 ≡ length xs = all.distinct old.0 (length xs) v (data_of t) s (kept_at xs (t ∷ ys) old.0 v old.1) (new_at xs ys t) old.2 is in
    omega arith

-- an item has no name
pub unnamed : (xs ys : List Tree) (t : Tree) → ((s : List ℕ) → IsNamed (data_of t) s → ⊥) → AreVersions (items_of (xs ++ t ∷ ys)) → ⊥
unnamed xs ys t h all = let name = all.named (length xs) (data_of t) (new_at xs ys t) in h name.0 name.1

pub selected : (xs : List Tree) (look : List ℕ → Option Data) (s : List ℕ) (o : Option Data) → IsIndex xs look → look s ≡ o → IsSelected (items_of xs) s o
selected xs look s None h e = h.none s e
selected xs look s (Some v) h e = h.some s v e

-- the items below an index, the one there, and the others
pub split_at : (xs : List Tree) (i : ℕ) (t : Tree) → i < length xs → t ≡ get_or xs i t → xs ≡ take i xs ++ t ∷ drop (i + 1) xs
split_at xs i t within is = sym (take-append-drop i xs) ∙ ap (λ ys. take i xs ++ ys) (drop_more xs i t within ∙ ap (λ x. x ∷ drop (i + 1) xs) (sym is))

pub some_value : {A : Type 0} (o : Option A) → is_some o ≡ true → (x : A) × (o ≡ Some x)
some_value None h = cc
some_value (Some x) h = (x, refl)

pub no_value : {A : Type 0} (o : Option A) → is_some o ≡ false → o ≡ None
no_value None h = refl
no_value (Some x) h = cc

pub map_cond : {A B : Type 0} (f : A → B) (b : Bool) (o p : Option A) → option_map f (cond b o p) ≡ (if b then option_map f o else option_map f p)
map_cond f true o p = refl
map_cond f false o p = refl

pub index_same : {xs ys : List Tree} {look : List ℕ → Option Data} → xs ≡ ys → IsIndex ys look → IsIndex xs look
index_same {look = look} e h = subst (λ zs. IsIndex zs look) (sym e) h
