-- Which bytes are which tree where all numbers are read: integers as in `specs/Integers.antt`, and any other number as its text.
-- A number beyond the range of floats, as `1e999`, is not read (RFC 8259, section 9, lets a reader limit the range of numbers).
use Rattle.std.specs.Prelude.{◌≡◌, ◌≤◌, ◌<◌, ℕ, ℤ, List, length, Option, Some, None, option_map, option_and_then}
use Rattle.std.specs.Str.{IsUtf8}
use Rattle.json.specs.Lex.{tokens}
use Rattle.json.specs.Json as document
use Rattle.serde_json.specs.Read.{number_of, max_depth}
use Rattle.jtree.specs.Data.{Data, null, boolean, integer, number, text, list, object, Items, no_items, item, Members, no_members, depth}
use Rattle.jtree.specs.Integers.{integer_of}
use Rattle.jtree.specs.MemberPlace.{with_member}
use Rattle.jtree.specs.Reads.{most_bytes, most_depth}
use Rattle.jtree.specs.declared.fault.JFault.{JFault}
use Rattle.jtree.specs.declared.fault.JFault.TheVariants.{NotAnInteger, NoMemory, NotJson, TooLong, ReadFailed}

-- a number: the integer that it is, or else its text
abbrev pub number_tree : List ℕ → Option ℤ → Data
number_tree s (Some z) = integer z
number_tree s None = number s

-- The tree that a document is, or none where some number is beyond the range of floats. Members go in one after the other, so of members
-- with the same name the last one is kept.
abbrev mutual
  pub tree_in : document.Json → Option Data
  tree_in document.null = Some null
  tree_in (document.boolean b) = Some (boolean b)
  tree_in (document.number s) = option_map (λ n. number_tree s (integer_of s n)) (number_of s)
  tree_in (document.string s) = Some (text s)
  tree_in (document.array js) = option_map list (items_in js)
  tree_in (document.object js) = option_map object (members_in js no_members)

  pub items_in : document.Items → Option Items
  items_in document.no_items = Some no_items
  items_in (document.item j js) = option_and_then (λ d. option_map (item d) (items_in js)) (tree_in j)

  pub members_in : document.Members → Members → Option Members
  members_in document.no_members found = Some found
  members_in (document.member k j js) found = option_and_then (λ d. members_in js (with_member k d found)) (tree_in j)

-- the one document that a text is, nested at most 127 deep
abbrev pub document_of : List ℕ → Option document.Json
document_of bytes = option_and_then (λ p. document.if_last p.0 p.1) (document.value max_depth (tokens bytes))

-- the bytes are this tree
abbrev pub ReadsAll : List ℕ → Data → Type 0
ReadsAll bytes d = (length bytes ≤ most_bytes) × IsUtf8 bytes × (option_and_then tree_in (document_of bytes) ≡ Some d)

-- the bytes are no tree
abbrev pub ReadsNone : List ℕ → Type 0
ReadsNone bytes = (d : Data) → ReadsAll bytes d → ⊥

-- why bytes are not a document; no number is a reason
abbrev pub IsNoDocumentAll : List ℕ → JFault → Type 0
IsNoDocumentAll bytes TooLong = most_bytes < length bytes
IsNoDocumentAll bytes NotJson = (length bytes ≤ most_bytes) × ReadsNone bytes
IsNoDocumentAll bytes NotAnInteger = ⊥
IsNoDocumentAll bytes NoMemory = Unit {0}
IsNoDocumentAll bytes ReadFailed = ⊥

-- the text reads as the tree, where the tree nests no deeper and the text is no longer than what is read
abbrev pub ReadsAllBack : Data → List ℕ → Type 0
ReadsAllBack d bytes = depth d ≤ most_depth → length bytes ≤ most_bytes → ReadsAll bytes d
