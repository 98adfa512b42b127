-- Trees as trees of numbers, one to one: what a proof needs to distinguish two of them.
use Rattle.std.specs.Prelude.{◌≡◌, ℕ, List}
use Rattle.std.specs.Coded.{Coded, coded_ℕ, coded_ℤ, coded_bool, coded_list}
use Rattle.std.proofs.Common.{ap, refl}
use Rattle.jtree.specs.Data.{Data, null, boolean, integer, number, text, list, object, Items, no_items, item, Members, no_members, member}
use base.Stored.{Gv, gnil, gnum, gcons}

abbrev pub head : Gv → Gv
head (gcons a b) = a
head _ = gnil

abbrev pub tail : Gv → Gv
tail (gcons a b) = b
tail _ = gnil

abbrev pub coded_bytes : Coded (List ℕ)
coded_bytes = coded_list coded_ℕ

abbrev mutual
  pub code_of : Data → Gv
  code_of null = gcons (gnum 0) gnil
  code_of (boolean b) = gcons (gnum 1) (coded_bool.code b)
  code_of (integer z) = gcons (gnum 2) (coded_ℤ.code z)
  code_of (text s) = gcons (gnum 3) (coded_bytes.code s)
  code_of (number s) = gcons (gnum 6) (coded_bytes.code s)
  code_of (list ds) = gcons (gnum 4) (items_code ds)
  code_of (object ms) = gcons (gnum 5) (members_code ms)

  pub items_code : Items → Gv
  items_code no_items = gnil
  items_code (item d ds) = gcons (code_of d) (items_code ds)

  pub members_code : Members → Gv
  members_code no_members = gnil
  members_code (member k d ms) = gcons (coded_bytes.code k) (gcons (code_of d) (members_code ms))

mutual
  pub code_inj : (x y : Data) → code_of x ≡ code_of y → x ≡ y
  code_inj null null p = refl
  code_inj (boolean a) (boolean b) p = ap boolean (coded_bool.inj a b (ap tail p))
  code_inj (integer a) (integer b) p = ap integer (coded_ℤ.inj a b (ap tail p))
  code_inj (number a) (number b) p = ap number (coded_bytes.inj a b (ap tail p))
  code_inj (text a) (text b) p = ap text (coded_bytes.inj a b (ap tail p))
  code_inj (list a) (list b) p = ap list (items_inj a b (ap tail p))
  code_inj (object a) (object b) p = ap object (members_inj a b (ap tail p))
  code_inj x y p = cc

  pub items_inj : (x y : Items) → items_code x ≡ items_code y → x ≡ y
  items_inj no_items no_items p = refl
  items_inj (item d ds) (item e es) p = λ i. item (code_inj d e (ap head p) i) (items_inj ds es (ap tail p) i)
  items_inj x y p = cc

  pub members_inj : (x y : Members) → members_code x ≡ members_code y → x ≡ y
  members_inj no_members no_members p = refl
  members_inj (member k d ms) (member l e ns) p = λ i.
      member (coded_bytes.inj k l (ap head p) i) (code_inj d e (ap (λ g. head (tail g)) p) i) (members_inj ms ns (ap (λ g. tail (tail g)) p) i)
  members_inj x y p = cc

abbrev pub data_coded : Coded Data
data_coded = record { code = code_of; inj = code_inj }

abbrev pub items_coded : Coded Items
items_coded = record { code = items_code; inj = items_inj }

abbrev pub members_coded : Coded Members
members_coded = record { code = members_code; inj = members_inj }
