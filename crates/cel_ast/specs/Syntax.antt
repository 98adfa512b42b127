-- An expression of the Common Expression Language as plain data (its specification, langdef.md, "Syntax"). Texts are lists of code points.
use Rattle.std.specs.Prelude.{ℕ, ℤ, Bool, suc, max, List, [], ◌∷◌}
use Rattle.cel_ast.specs.declared.operators.Unary.{Unary}
use Rattle.cel_ast.specs.declared.operators.Binary.{Binary}
use Rattle.cel_ast.specs.declared.operators.Macro.{Macro}

abbrev pub Text : Type 0
Text = List ℕ

-- a value that is written out; numbers but integers are as written
pub data Constant : Type 0 where
  null : Constant
  boolean : Bool → Constant
  integer : ℤ → Constant
  unsigned : Text → Constant
  double : Text → Constant
  string : Text → Constant
  bytes : Constant

-- A leading dot is part of its name. An element, entry or field has with it whether a `?` stands before it.
mutual
  pub data Syntax : Type 0 where
    literal : Constant → Syntax
    name : Text → Syntax
    select : Syntax → Text → Syntax
    optional_select : Syntax → Text → Syntax
    present : Syntax → Text → Syntax
    call : Text → Parts → Syntax
    method : Syntax → Text → Parts → Syntax
    list : Elements → Syntax
    map : Entries → Syntax
    message : Text → Entries → Syntax
    unary : Unary → Syntax → Syntax
    binary : Binary → Syntax → Syntax → Syntax
    choice : Syntax → Syntax → Syntax → Syntax
    macro : Macro → Syntax → Text → Syntax → Syntax
    map_where : Syntax → Text → Syntax → Syntax → Syntax

  pub data Parts : Type 0 where
    no_parts : Parts
    part : Syntax → Parts → Parts

  pub data Elements : Type 0 where
    no_elements : Elements
    element : Bool → Syntax → Elements → Elements

  pub data Entries : Type 0 where
    no_entries : Entries
    entry : Bool → Key → Syntax → Entries → Entries

  -- the key of a map's entry, or the name of a message's field
  pub data Key : Type 0 where
    key : Syntax → Key
    field : Text → Key

abbrev pub parts : List Syntax → Parts
parts [] = no_parts
parts (e ∷ es) = part e (parts es)

abbrev pub elements : List (Bool × Syntax) → Elements
elements [] = no_elements
elements (e ∷ es) = element e.0 e.1 (elements es)

abbrev pub entries : List (Bool × Key × Syntax) → Entries
entries [] = no_entries
entries (e ∷ es) = entry e.0 e.1 e.2 (entries es)

-- how deep expressions nest
abbrev mutual
  pub height : Syntax → ℕ
  height (literal c) = 0
  height (name x) = 0
  height (select e f) = suc (height e)
  height (optional_select e f) = suc (height e)
  height (present e f) = suc (height e)
  height (call f ps) = suc (parts_height ps)
  height (method e f ps) = suc (max (height e) (parts_height ps))
  height (list es) = suc (elements_height es)
  height (map es) = suc (entries_height es)
  height (message n es) = suc (entries_height es)
  height (unary o e) = suc (height e)
  height (binary o a b) = suc (max (height a) (height b))
  height (choice c a b) = suc (max (height c) (max (height a) (height b)))
  height (macro m e x body) = suc (max (height e) (height body))
  height (map_where e x p t) = suc (max (height e) (max (height p) (height t)))

  pub parts_height : Parts → ℕ
  parts_height no_parts = 0
  parts_height (part e es) = max (suc (height e)) (parts_height es)

  pub elements_height : Elements → ℕ
  elements_height no_elements = 0
  elements_height (element o e es) = max (suc (height e)) (elements_height es)

  pub entries_height : Entries → ℕ
  entries_height no_entries = 0
  entries_height (entry o k e es) = max (max (key_height k) (suc (height e))) (entries_height es)

  pub key_height : Key → ℕ
  key_height (key e) = suc (height e)
  key_height (field f) = 0
