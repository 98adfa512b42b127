-- A tree as plain data: null, a boolean, an integer, another number, a string, a list of trees, or an object (RFC 8259).
-- A string is the list of its UTF-8 bytes, and so is the text of another number.
use Rattle.std.specs.Prelude.{◌≡◌, ℕ, suc, max, ℤ, List, Bool, Some, None, FitsSigned}
use Rattle.std.specs.Int.{w64}
use Rattle.std.specs.Ordering.{nat_cmp}
use Rattle.std.specs.Cmp.Lexicographic.{slice_cmp}
use Rattle.std.specs.declared.cmp.Ordering.TheVariants.{Less}
use Rattle.json.specs.Print.{IsNumber}
use Rattle.serde_json.specs.Data as json
use Rattle.serde_json.specs.Read.{number_of}
use Rattle.jtree.specs.Integers.{integer_of}

mutual
  pub data Data : Type 0 where
    null : Data
    boolean : Bool → Data
    integer : ℤ → Data
    number : List ℕ → Data
    text : List ℕ → Data
    list : Items → Data
    object : Members → Data

  pub data Items : Type 0 where
    no_items : Items
    item : Data → Items → Items

  pub data Members : Type 0 where
    no_members : Members
    member : List ℕ → Data → Members → Members

-- the name comes before all names of the members, by bytes
abbrev pub IsNameBefore : List ℕ → Members → Type 0
IsNameBefore name no_members = Unit {0}
IsNameBefore name (member k d ms) = slice_cmp nat_cmp name k ≡ Less

-- the text is a number by the grammar of JSON, within the range of floats, and not an integer
abbrev pub IsOtherNumber : List ℕ → Type 0
IsOtherNumber s = IsNumber s × (n : json.Num) × (number_of s ≡ Some n) × (integer_of s n ≡ None)

-- An object is a finite map from texts to trees: its members are in the order of their names, and no name occurs twice.
-- Integers are those of 64 bits, and another number is not one.
abbrev mutual
  pub IsTree : Data → Type 0
  IsTree (integer z) = FitsSigned w64 z
  IsTree (number s) = IsOtherNumber s
  IsTree (list ds) = AreTrees ds
  IsTree (object ms) = AreMembers ms
  IsTree _ = Unit {0}

  pub AreTrees : Items → Type 0
  AreTrees no_items = Unit {0}
  AreTrees (item d ds) = IsTree d × AreTrees ds

  pub AreMembers : Members → Type 0
  AreMembers no_members = Unit {0}
  AreMembers (member k d ms) = IsTree d × IsNameBefore k ms × AreMembers ms

-- how deep lists and objects nest
abbrev mutual
  pub depth : Data → ℕ
  depth (list ds) = suc (items_depth ds)
  depth (object ms) = suc (members_depth ms)
  depth _ = 0

  pub items_depth : Items → ℕ
  items_depth no_items = 0
  items_depth (item d ds) = max (depth d) (items_depth ds)

  pub members_depth : Members → ℕ
  members_depth no_members = 0
  members_depth (member k d ms) = max (depth d) (members_depth ms)
