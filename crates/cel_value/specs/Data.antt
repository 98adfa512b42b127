-- A value of the Common Expression Language as plain data (its specification, langdef.md, "Values"). Strings are lists of code points.
use Rattle.std.specs.Prelude.{ℕ, ℤ, Bool, suc, max}
use Rattle.cel_ast.specs.Syntax.{Text}

-- the key of a map's entry
pub data Key : Type 0 where
  boolean_key : Bool → Key
  integer_key : ℤ → Key
  string_key : Text → Key

mutual
  pub data Value : Type 0 where
    null : Value
    boolean : Bool → Value
    integer : ℤ → Value
    string : Text → Value
    list : Values → Value
    map : Entries → Value

  pub data Values : Type 0 where
    no_values : Values
    item : Value → Values → Values

  pub data Entries : Type 0 where
    no_entries : Entries
    entry : Key → Value → Entries → Entries

-- how deep values nest
abbrev mutual
  pub depth : Value → ℕ
  depth (list vs) = suc (values_depth vs)
  depth (map es) = suc (entries_depth es)
  depth _ = 0

  pub values_depth : Values → ℕ
  values_depth no_values = 0
  values_depth (item v vs) = max (suc (depth v)) (values_depth vs)

  pub entries_depth : Entries → ℕ
  entries_depth no_entries = 0
  entries_depth (entry k v es) = max (suc (depth v)) (entries_depth es)
