-- Values as trees of numbers, one to one.
use Rattle.std.specs.Prelude.{◌≡◌, ℕ}
use Rattle.std.specs.Coded.{Coded, coded_ℕ, coded_ℤ, coded_bool, coded_list}
use Rattle.std.proofs.Common.{ap, refl}
use Rattle.cel_ast.specs.Syntax.{Text}
use Rattle.cel_value.specs.Data.{Value, null, boolean, integer, string, list, map, Key, boolean_key, integer_key, string_key, Values, no_values, item, Entries, no_entries, entry}
use base.Stored.{Gv, gnil, gnum, gcons}

abbrev head : Gv → Gv
head (gcons a b) = a
head _ = gnil

abbrev tail : Gv → Gv
tail (gcons a b) = b
tail _ = gnil

abbrev coded_text : Coded Text
coded_text = coded_list coded_ℕ

abbrev key_code : Key → Gv
key_code (boolean_key b) = gcons (gnum 0) (coded_bool.code b)
key_code (integer_key z) = gcons (gnum 1) (coded_ℤ.code z)
key_code (string_key t) = gcons (gnum 2) (coded_text.code t)

key_inj : (x y : Key) → key_code x ≡ key_code y → x ≡ y
key_inj (boolean_key a) (boolean_key b) p = ap boolean_key (coded_bool.inj a b (ap tail p))
key_inj (integer_key a) (integer_key b) p = ap integer_key (coded_ℤ.inj a b (ap tail p))
key_inj (string_key a) (string_key b) p = ap string_key (coded_text.inj a b (ap tail p))
key_inj x y p = cc

abbrev mutual
  pub code_of : Value → Gv
  code_of null = gcons (gnum 0) gnil
  code_of (boolean b) = gcons (gnum 1) (coded_bool.code b)
  code_of (integer z) = gcons (gnum 2) (coded_ℤ.code z)
  code_of (string t) = gcons (gnum 3) (coded_text.code t)
  code_of (list vs) = gcons (gnum 4) (values_code vs)
  code_of (map es) = gcons (gnum 5) (entries_code es)

  pub values_code : Values → Gv
  values_code no_values = gnil
  values_code (item v vs) = gcons (code_of v) (values_code vs)

  pub entries_code : Entries → Gv
  entries_code no_entries = gnil
  entries_code (entry k v es) = gcons (gcons (key_code k) (code_of v)) (entries_code es)

mutual
  pub code_inj : (x y : Value) → code_of x ≡ code_of y → x ≡ y
  code_inj null null p = refl
  code_inj (boolean a) (boolean b) p = ap boolean (coded_bool.inj a b (ap tail p))
  code_inj (integer a) (integer b) p = ap integer (coded_ℤ.inj a b (ap tail p))
  code_inj (string a) (string b) p = ap string (coded_text.inj a b (ap tail p))
  code_inj (list a) (list b) p = ap list (values_inj a b (ap tail p))
  code_inj (map a) (map b) p = ap map (entries_inj a b (ap tail p))
  code_inj x y p = cc

  pub values_inj : (x y : Values) → values_code x ≡ values_code y → x ≡ y
  values_inj no_values no_values p = refl
  values_inj (item v vs) (item w ws) p = λ i. item (code_inj v w (ap head p) i) (values_inj vs ws (ap tail p) i)
  values_inj x y p = cc

  pub entries_inj : (x y : Entries) → entries_code x ≡ entries_code y → x ≡ y
  entries_inj no_entries no_entries p = refl
  entries_inj (entry k v es) (entry l w fs) p =
      λ i. entry (key_inj k l (ap (λ z. head (head z)) p) i) (code_inj v w (ap (λ z. tail (head z)) p) i) (entries_inj es fs (ap tail p) i)
  entries_inj x y p = cc

abbrev pub coded_values : Coded Values
coded_values = record { code = values_code; inj = values_inj }

abbrev pub coded_entries : Coded Entries
coded_entries = record { code = entries_code; inj = entries_inj }
