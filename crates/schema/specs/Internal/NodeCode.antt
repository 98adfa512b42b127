-- Nodes as trees of numbers, one to one: what a proof needs to distinguish two of them.
use Rattle.std.specs.Prelude.{◌≡◌, ℕ, zero, suc, ℤ, List, Bool, Option}
use Rattle.std.specs.Coded.{Coded, code_by, coded×, coded_ℕ, coded_ℤ, coded_bool, coded_list, coded_option}
use Rattle.std.proofs.Common.{ap, refl}
use Rattle.jtree.specs.Data.{Data, Items, Members}
use Rattle.jtree.specs.Internal.Code.{head, tail, coded_bytes, items_coded, members_coded, data_coded}
use Rattle.schema.specs.Nodes.Node.{Validations, validations, Branches, no_branches, branch, Node, node, Sort, scalar, object, map, list, open_, Fields, no_fields, field}
use Rattle.schema.specs.declared.node.Bounds.{Bounds}
use Rattle.schema.specs.declared.node.Constraints.{Constraints}
use Rattle.schema.specs.declared.node.ScalarKind.{ScalarKind}
use Rattle.schema.specs.declared.node.ScalarKind.TheVariants as kind
use Rattle.schema.specs.declared.node.ListType.{ListType}
use Rattle.schema.specs.declared.node.ListType.TheVariants as list_type
use Rattle.jtree.specs.declared.equality.Equality.TheVariants.{Exact, ByValue}
use Rattle.schema.specs.declared.node.MapType.{MapType}
use Rattle.schema.specs.declared.node.MapType.TheVariants as map_type
use base.Stored.{Gv, gnil, gnum, gcons}

abbrev kind_number : ScalarKind → ℕ
kind_number kind.Boolean = 0
kind_number kind.Integer = 1
kind_number kind.String = 2
kind_number kind.IntOrString = 3
kind_number kind.Number = 4

abbrev kind_from : ℕ → ScalarKind
kind_from zero = kind.Boolean
kind_from (suc zero) = kind.Integer
kind_from (suc (suc zero)) = kind.String
kind_from (suc (suc (suc zero))) = kind.IntOrString
kind_from (suc (suc (suc (suc n)))) = kind.Number

pub kind_back : (k : ScalarKind) → kind_from (kind_number k) ≡ k
kind_back kind.Boolean = refl
kind_back _ = refl

abbrev pub kind_coded : Coded ScalarKind
kind_coded = code_by ℕ coded_ℕ kind_number kind_from kind_back

abbrev list_type_number : ListType → ℕ
list_type_number list_type.Atomic = 0
list_type_number (list_type.Set Exact) = 1
list_type_number (list_type.Set ByValue) = 2
list_type_number (list_type.Map Exact) = 3
list_type_number (list_type.Map ByValue) = 4

abbrev list_type_from : ℕ → ListType
list_type_from zero = list_type.Atomic
list_type_from (suc zero) = list_type.Set Exact
list_type_from (suc (suc zero)) = list_type.Set ByValue
list_type_from (suc (suc (suc zero))) = list_type.Map Exact
list_type_from (suc (suc (suc (suc n)))) = list_type.Map ByValue

pub list_type_back : (t : ListType) → list_type_from (list_type_number t) ≡ t
list_type_back list_type.Atomic = refl
list_type_back (list_type.Set Exact) = refl
list_type_back (list_type.Set ByValue) = refl
list_type_back (list_type.Map Exact) = refl
list_type_back (list_type.Map ByValue) = refl

abbrev pub list_type_coded : Coded ListType
list_type_coded = code_by ℕ coded_ℕ list_type_number list_type_from list_type_back

abbrev map_type_number : MapType → ℕ
map_type_number map_type.Granular = 0
map_type_number map_type.Atomic = 1

abbrev map_type_from : ℕ → MapType
map_type_from zero = map_type.Granular
map_type_from (suc n) = map_type.Atomic

pub map_type_back : (t : MapType) → map_type_from (map_type_number t) ≡ t
map_type_back map_type.Granular = refl
map_type_back map_type.Atomic = refl

abbrev pub map_type_coded : Coded MapType
map_type_coded = code_by ℕ coded_ℕ map_type_number map_type_from map_type_back

abbrev pub bounds_coded : Coded Bounds
bounds_coded = code_by (Option ℕ × Option ℕ) (coded× (coded_option coded_ℕ) (coded_option coded_ℕ))
    (λ b. (b.least, b.most)) (λ p. record { least = p.0; most = p.1 }) (λ _. refl)

abbrev names_coded : Coded (List (List ℕ))
names_coded = coded_list coded_bytes

abbrev Limits : Type 0
Limits = Option ℤ × (Option ℤ × (Bool × Bool))

abbrev limits_coded : Coded Limits
limits_coded = coded× (coded_option coded_ℤ) (coded× (coded_option coded_ℤ) (coded× coded_bool coded_bool))

abbrev pub constraints_coded : Coded Constraints
constraints_coded = code_by (Option Items × (Limits × (Bounds × (Option Members × List (List ℕ))))) (coded× (coded_option items_coded) (coded× limits_coded (coded× bounds_coded (coded× (coded_option members_coded) names_coded))))
    (λ t. (t.choices, ((t.minimum, (t.maximum, (t.exclusive_minimum, t.exclusive_maximum))), (t.lengths, (t.written, t.required)))))
    (λ p. record { choices = p.0; minimum = p.1.0.0; maximum = p.1.0.1.0; exclusive_minimum = p.1.0.1.1.0; exclusive_maximum = p.1.0.1.1.1; lengths = p.1.1.0; written = p.1.1.1.0; required = p.1.1.1.1 })
    (λ _. refl)

abbrev mutual
  pub validations_code : Validations → Gv
  validations_code (validations t a b c d) = gcons (constraints_coded.code t) (gcons (branches_code a) (gcons (branches_code b) (gcons (branches_code c) (branches_code d))))

  pub branches_code : Branches → Gv
  branches_code no_branches = gnil
  branches_code (branch c cs) = gcons (validations_code c) (branches_code cs)

mutual
  pub validations_inj : (x y : Validations) → validations_code x ≡ validations_code y → x ≡ y
  validations_inj (validations t a b c d) (validations u e f g h) p = λ i.
      validations (constraints_coded.inj t u (ap head p) i) (branches_inj a e (ap (λ v. head (tail v)) p) i) (branches_inj b f (ap (λ v. head (tail (tail v))) p) i)
      (branches_inj c g (ap (λ v. head (tail (tail (tail v)))) p) i) (branches_inj d h (ap (λ v. tail (tail (tail (tail v)))) p) i)

  pub branches_inj : (x y : Branches) → branches_code x ≡ branches_code y → x ≡ y
  branches_inj no_branches no_branches p = refl
  branches_inj (branch c cs) (branch d ds) p = λ i. branch (validations_inj c d (ap head p) i) (branches_inj cs ds (ap tail p) i)
  branches_inj cs ds p = cc

abbrev pub branches_coded : Coded Branches
branches_coded = record { code = branches_code; inj = branches_inj }

abbrev description_coded : Coded (Option (List ℕ))
description_coded = coded_option coded_bytes

abbrev default_coded : Coded (Option Data)
default_coded = coded_option data_coded

abbrev mutual
  pub node_code : Node → Gv
  node_code (node nullable description sort) = gcons (coded_bool.code nullable) (gcons (description_coded.code description) (sort_code sort))

  pub sort_code : Sort → Gv
  sort_code (scalar kind cs) = gcons (gnum 0) (gcons (kind_coded.code kind) (validations_code cs))
  sort_code (object fs preserves type bounds cs) = gcons (gnum 1) (gcons (fields_code fs) (gcons (coded_bool.code preserves) (gcons (map_type_coded.code type) (gcons (bounds_coded.code bounds) (validations_code cs)))))
  sort_code (map N type bounds) = gcons (gnum 2) (gcons (node_code N) (gcons (map_type_coded.code type) (bounds_coded.code bounds)))
  sort_code (list N type keys bounds) = gcons (gnum 3) (gcons (node_code N) (gcons (list_type_coded.code type) (gcons (names_coded.code keys) (bounds_coded.code bounds))))
  sort_code open_ = gcons (gnum 4) gnil

  pub fields_code : Fields → Gv
  fields_code no_fields = gnil
  fields_code (field k N required default fs) =
      gcons (coded_bytes.code k) (gcons (node_code N) (gcons (coded_bool.code required) (gcons (default_coded.code default) (fields_code fs))))

mutual
  pub node_inj : (x y : Node) → node_code x ≡ node_code y → x ≡ y
  node_inj (node m d s) (node n e t) p = λ i.
      node (coded_bool.inj m n (ap head p) i) (description_coded.inj d e (ap (λ v. head (tail v)) p) i) (sort_inj s t (ap (λ v. tail (tail v)) p) i)

  pub sort_inj : (x y : Sort) → sort_code x ≡ sort_code y → x ≡ y
  sort_inj (scalar k c) (scalar l d) p = λ i. scalar (kind_coded.inj k l (ap (λ v. head (tail v)) p) i) (validations_inj c d (ap (λ v. tail (tail v)) p) i)
  sort_inj (object f k t b v) (object g l u c w) p = λ i.
      object (fields_inj f g (ap (λ v. head (tail v)) p) i) (coded_bool.inj k l (ap (λ v. head (tail (tail v))) p) i)
      (map_type_coded.inj t u (ap (λ v. head (tail (tail (tail v)))) p) i) (bounds_coded.inj b c (ap (λ u. head (tail (tail (tail (tail u))))) p) i) (validations_inj v w (ap (λ u. tail (tail (tail (tail (tail u))))) p) i)
  sort_inj (map M t b) (map N u c) p = λ i.
      map (node_inj M N (ap (λ v. head (tail v)) p) i) (map_type_coded.inj t u (ap (λ v. head (tail (tail v))) p) i)
      (bounds_coded.inj b c (ap (λ v. tail (tail (tail v))) p) i)
  sort_inj (list M t k b) (list N u l c) p = λ i.
      list (node_inj M N (ap (λ v. head (tail v)) p) i) (list_type_coded.inj t u (ap (λ v. head (tail (tail v))) p) i)
      (names_coded.inj k l (ap (λ v. head (tail (tail (tail v)))) p) i) (bounds_coded.inj b c (ap (λ v. tail (tail (tail (tail v)))) p) i)
  sort_inj open_ open_ p = refl
  sort_inj x y p = cc

  pub fields_inj : (x y : Fields) → fields_code x ≡ fields_code y → x ≡ y
  fields_inj no_fields no_fields p = refl
  fields_inj (field k M r d fs) (field l N q e gs) p = λ i.
      field (coded_bytes.inj k l (ap head p) i) (node_inj M N (ap (λ v. head (tail v)) p) i) (coded_bool.inj r q (ap (λ v. head (tail (tail v))) p) i)
      (default_coded.inj d e (ap (λ v. head (tail (tail (tail v)))) p) i) (fields_inj fs gs (ap (λ v. tail (tail (tail (tail v)))) p) i)
  fields_inj fs gs p = cc

abbrev pub node_coded : Coded Node
node_coded = record { code = node_code; inj = node_inj }

abbrev pub fields_coded : Coded Fields
fields_coded = record { code = fields_code; inj = fields_inj }
