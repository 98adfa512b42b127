-- What follows from the kind of a schema.
use Rattle.std.proofs.Common.{◌≡◌, ◌⊎◌, ℕ, List, [], Bool, true, false, Option, Some, None, refl, sym, ◌∙◌, subst, inl, inr}
use Rattle.std.specs.Prelude.{codes, if◌then◌else◌}
use Rattle.std.specs.Str.{bytes_eq}
use Rattle.std.proofs.lemmas.Option.{same_Some}
use Rattle.jtree.specs.Data.{Data, text, object}
use Rattle.jtree.specs.Path.{under}
use Rattle.schema.specs.Document.Crd.{IsObject}
use Rattle.schema.specs.Internal.Building.{HasObject}
use Rattle.schema.specs.Rules.Keywords.{has_other_text}
use Rattle.schema.specs.Rules.Kinds as kinds
use Rattle.schema.specs.Rules.Kinds.{Kind, IsOfKind, open_, map, is_object_kind, kind_of, typed_kind, named_kind, number_kind, untyped_kind, object_kind, is_int_or_string, preserves, lacks_type}
use Rattle.schema.specs.Rules.Profile.{types_of}
use Rattle.schema.specs.declared.profile.Profile.{Profile}
use Rattle.schema.specs.declared.profile.Profile.TheVariants.{Core, Cluster}

-- a schema that is of a kind is an object
pub kind_object : (profile : Profile) (s : Data) (k : Kind) → IsOfKind profile s k → IsObject s
kind_object profile (object ms) k is = (ms, refl)
kind_object profile s k is = let reported = is.is in absurd (cc)

-- a schema is of one kind at most
pub one_kind : (profile : Profile) (s : Data) (j k : Kind) → IsOfKind profile s j → IsOfKind profile s k → j ≡ k
one_kind profile s j k is_j is_k = same_Some j k (sym is_j.is ∙ is_k.is)

-- one of two answers
either : {X : Type 0} (b : Bool) (x y z : X) (P : Type 0) → (if b then x else y) ≡ z → (b ≡ true → x ≡ z → P) → (b ≡ false → y ≡ z → P) → P
either true x y z P is then_P else_P = then_P refl is
either false x y z P is then_P else_P = else_P refl is

-- ---- the kinds of objects

abbrev IsEither : Option Kind → Type 0
IsEither o = is_object_kind o ≡ true

other_kind : (o p : Option Kind) (P : Type 0) → is_object_kind o ≡ false → o ≡ p → IsEither p → P
other_kind o p P other same is = let either_is : is_object_kind o ≡ true = subst IsEither (sym same) is in absurd (cc)

untyped_object : (s : Data) (k : Kind) (P : Type 0) → IsEither (Some k) → untyped_kind s ≡ Some k → P
untyped_object s k P either_is is =
    either (preserves s) _ _ (Some k) P is (λ _ reported. other_kind (Some open_) (Some k) P refl reported either_is) (λ _ reported. other_kind None (Some k) P refl reported either_is)

number_other : (profile : Profile) → is_object_kind (number_kind profile) ≡ false
number_other Core = refl
number_other Cluster = refl

named_object : (profile : Profile) (s : Data) (t : List ℕ) (k : Kind) → IsEither (Some k) → named_kind profile s t ≡ Some k → object_kind (under s (codes "additionalProperties")) ≡ k
named_object profile s t k either_is is =
    let P = object_kind (under s (codes "additionalProperties")) ≡ k in
    let never = λ (o : Option Kind) (other : is_object_kind o ≡ false) (reported : o ≡ Some k). other_kind o (Some k) P other reported either_is in
    either (bytes_eq t []) _ _ (Some k) P is (λ _ reported. untyped_object s k P either_is reported)
    (λ _ first. either (bytes_eq t (codes "integer")) _ _ (Some k) P first (λ _ reported. never _ refl reported)
    (λ _ second. either (bytes_eq t (codes "string")) _ _ (Some k) P second (λ _ reported. never _ refl reported)
    (λ _ third. either (bytes_eq t (codes "boolean")) _ _ (Some k) P third (λ _ reported. never _ refl reported)
    (λ _ fourth. either (bytes_eq t (codes "array")) _ _ (Some k) P fourth (λ _ reported. never _ refl reported)
    (λ _ fifth. either (bytes_eq t (codes "object")) _ _ (Some k) P fifth (λ _ reported. same_Some _ k reported)
    (λ _ sixth. either (bytes_eq t (codes "number")) _ _ (Some k) P sixth (λ _ reported. never _ (number_other profile) reported) (λ _ reported. never None refl reported)))))))

typed_object : (profile : Profile) (s : Data) (o : Option Data) (k : Kind) → IsEither (Some k) → typed_kind profile s o ≡ Some k → object_kind (under s (codes "additionalProperties")) ≡ k
typed_object profile s None k either_is is = untyped_object s k _ either_is is
typed_object profile s (Some (text t)) k either_is is = named_object profile s t k either_is is
typed_object profile s _ k either_is is = absurd (cc)

object_known : (profile : Profile) (s : Data) (k : Kind) → IsEither (Some k) → kind_of profile s ≡ Some k → object_kind (under s (codes "additionalProperties")) ≡ k
object_known profile s k either_is is =
    let P = object_kind (under s (codes "additionalProperties")) ≡ k in
    either (is_int_or_string s) _ _ (Some k) P is (λ _ reported. other_kind _ (Some k) P refl reported either_is) (λ _ reported. typed_object profile s (under s (codes "type")) k either_is reported)

map_values : (s : Data) (o : Option Data) → under s (codes "additionalProperties") ≡ o → object_kind o ≡ map → HasObject s (codes "additionalProperties")
map_values s (Some (object ms)) at is = (ms, at)
map_values s _ at is = absurd (cc)

pub map_has_object : (profile : Profile) (s : Data) → kind_of profile s ≡ Some map → HasObject s (codes "additionalProperties")
map_has_object profile s is = map_values s (under s (codes "additionalProperties")) refl (object_known profile s map refl is)

pub object_has_none : (profile : Profile) (s : Data) → kind_of profile s ≡ Some kinds.object → HasObject s (codes "additionalProperties") → ⊥
object_has_none profile s is o =
    let one : map ≡ kinds.object = subst (λ x. object_kind x ≡ kinds.object) o.1 (object_known profile s kinds.object refl is) in
    cc

-- ---- a place of no kind has no type, or another one

abbrev HasNoType : Profile → Data → Type 0
HasNoType profile s = (lacks_type s ≡ true) ⊎ (has_other_text (types_of profile) s (codes "type") ≡ true)

untyped_none : (s : Data) → untyped_kind s ≡ None → preserves s ≡ false
untyped_none s is = either (preserves s) _ _ None (preserves s ≡ false) is (λ _ reported. absurd (cc)) (λ off _. off)

other_named : (profile : Profile) (s : Data) (t : List ℕ) → under s (codes "type") ≡ Some (text t) → bytes_eq t [] ≡ false → bytes_eq t (codes "integer") ≡ false → bytes_eq t (codes "string") ≡ false
    → bytes_eq t (codes "boolean") ≡ false → bytes_eq t (codes "array") ≡ false → bytes_eq t (codes "object") ≡ false
    → (if bytes_eq t (codes "number") then number_kind profile else None) ≡ None → HasNoType profile s
other_named Core s t at e f g h i j last = inr (rw (at, e, f, g, h, i, j) refl)
other_named Cluster s t at e f g h i j last =
    either (bytes_eq t (codes "number")) _ _ None (HasNoType Cluster s) last (λ _ reported. absurd (cc)) (λ n _. inr (rw (at, n, e, f, g, h, i, j) refl))

named_none : (profile : Profile) (s : Data) (t : List ℕ) → under s (codes "type") ≡ Some (text t) → is_int_or_string s ≡ false → named_kind profile s t ≡ None → HasNoType profile s
named_none profile s t at single is =
    let P = HasNoType profile s in
    either (bytes_eq t []) _ _ None P is (λ empty reported. inl (rw (at, empty, single, untyped_none s reported) refl))
    (λ e first. either (bytes_eq t (codes "integer")) _ _ None P first (λ _ reported. absurd (cc))
    (λ f second. either (bytes_eq t (codes "string")) _ _ None P second (λ _ reported. absurd (cc))
    (λ g third. either (bytes_eq t (codes "boolean")) _ _ None P third (λ _ reported. absurd (cc))
    (λ h fourth. either (bytes_eq t (codes "array")) _ _ None P fourth (λ _ reported. absurd (cc))
    (λ i fifth. either (bytes_eq t (codes "object")) _ _ None P fifth (λ _ reported. absurd (cc))
    (λ j last. other_named profile s t at e f g h i j last))))))

typed_none : (profile : Profile) (s : Data) (o : Option Data) → under s (codes "type") ≡ o → is_int_or_string s ≡ false → typed_kind profile s o ≡ None → HasNoType profile s
typed_none profile s None at single is = inl (rw (at, single, untyped_none s is) refl)
typed_none profile s (Some (text t)) at single is = named_none profile s t at single is
typed_none profile s (Some _) at single is = inr (rw at refl)

pub kind_none : (profile : Profile) (s : Data) → kind_of profile s ≡ None → HasNoType profile s
kind_none profile s is = either (is_int_or_string s) _ _ None (HasNoType profile s) is (λ _ reported. absurd (cc)) (λ single reported. typed_none profile s (under s (codes "type")) refl single reported)
