-- Declared fields are in the order of their names, each once.
use Rattle.std.proofs.Common.{◌≡◌, ℕ, List, Bool, Option, Some, ap, sym, subst, inl, inr}
use Rattle.std.specs.Str.{bytes_eq}
use Rattle.std.specs.declared.cmp.Ordering.TheVariants.{Less}
use Rattle.std.proofs.lemmas.Cmp.{nat_list_cmp_total}
use Rattle.std.proofs.lemmas.Option.{same_Some}
use Rattle.jtree.specs.Data.{Data}
use Rattle.jtree.specs.Order.{text_cmp}
use Rattle.jtree.specs.Internal.Lookups.{bool_cases, same_name, later_name}
use Rattle.schema.specs.Nodes.Node.{Node, Fields, no_fields, field, IsNode, IsBeforeFields, AreOrdered}
use Rattle.schema.specs.Nodes.ByPlace.{Declared, field_at}

pub fields_before : (k l : List ℕ) (fs : Fields) → text_cmp k l ≡ Less → IsBeforeFields l fs → IsBeforeFields k fs
fields_before k l no_fields before h = tt
fields_before k l (field m N required default fs) before h = nat_list_cmp_total.trans k l m before h

-- a field further on is the field of its name in the whole
pub field_after : (l : List ℕ) (fs : Fields) (k : List ℕ) (f : Declared) → IsBeforeFields l fs → AreOrdered fs → field_at k fs ≡ Some f → text_cmp l k ≡ Less
field_after l no_fields k f before ordered is = cc
field_after l (field m N required default fs) k f before ordered is = elim (bool_cases (bytes_eq k m)) [
  | inl t ↦ subst (λ n. text_cmp l n ≡ Less) (sym (same_name k m t)) before
  | inr o ↦ field_after l fs k f (fields_before l m fs before ordered.1) ordered.2 (rw o at is)
]

pub later_field : (k l : List ℕ) (N : Node) (required : Bool) (default : Option Data) (fs : Fields) (f : Declared) → AreOrdered (field l N required default fs)
    → field_at k fs ≡ Some f → field_at k (field l N required default fs) ≡ Some f
later_field k l N required default fs f ordered is = rw (later_name k l (field_after l fs k f ordered.1 ordered.2 is)) is

pub field_node : (k : List ℕ) (fs : Fields) (f : Declared) → AreOrdered fs → field_at k fs ≡ Some f → IsNode f.node
field_node k no_fields f ordered is = cc
field_node k (field l N required default fs) f ordered is = elim (bool_cases (bytes_eq k l)) [
  | inl t ↦ subst IsNode (ap (λ g. g.node) (same_Some (record { node = N; required = required; default = default }) f (rw t at is))) ordered.0
  | inr o ↦ field_node k fs f ordered.2 (rw o at is)
]
