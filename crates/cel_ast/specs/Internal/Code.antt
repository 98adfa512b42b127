-- Expressions as trees of numbers, one to one.
use Rattle.std.specs.Prelude.{◌≡◌, ℕ}
use Rattle.std.specs.Coded.{Coded, coded_ℕ, coded_ℤ, coded_bool, coded_list}
use Rattle.std.proofs.Common.{ap, refl, arith}
use Rattle.cel_ast.specs.contracts.operators.Unary as unary_op
use Rattle.cel_ast.specs.contracts.operators.Binary as binary_op
use Rattle.cel_ast.specs.contracts.operators.Macro as macro_op
use Rattle.cel_ast.specs.Syntax.{Text, Constant, null, boolean, integer, unsigned, double, string, bytes, Syntax, literal, name, select, optional_select, present, call, method, list, map, message, unary, binary, choice, macro, map_where, Parts, no_parts, part, Elements, no_elements, element, Entries, no_entries, entry, Key, key, field}
use base.Stored.{Gv, gnil, gnum, gcons}

abbrev head : Gv → Gv
head (gcons a b) = a
head _ = gnil

abbrev tail : Gv → Gv
tail (gcons a b) = b
tail _ = gnil

abbrev number : Gv → ℕ
number (gcons (gnum n) b) = n
number _ = 0

-- the parts of what follows a constructor's number
abbrev first : Gv → Gv
first v = head (tail v)

abbrev second : Gv → Gv
second v = head (tail (tail v))

abbrev third : Gv → Gv
third v = head (tail (tail (tail v)))

abbrev fourth : Gv → Gv
fourth v = head (tail (tail (tail (tail v))))

abbrev coded_text : Coded Text
coded_text = coded_list coded_ℕ

abbrev constant_code : Constant → Gv
constant_code null = gcons (gnum 0) gnil
constant_code (boolean b) = gcons (gnum 1) (gcons (coded_bool.code b) gnil)
constant_code (integer z) = gcons (gnum 2) (gcons (coded_ℤ.code z) gnil)
constant_code (unsigned t) = gcons (gnum 3) (gcons (coded_text.code t) gnil)
constant_code (double t) = gcons (gnum 4) (gcons (coded_text.code t) gnil)
constant_code (string t) = gcons (gnum 5) (gcons (coded_text.code t) gnil)
constant_code bytes = gcons (gnum 6) gnil

constant_inj : (x y : Constant) → constant_code x ≡ constant_code y → x ≡ y
constant_inj null null p = refl
constant_inj (boolean a) (boolean b) p = ap boolean (coded_bool.inj a b (ap first p))
constant_inj (integer a) (integer b) p = ap integer (coded_ℤ.inj a b (ap first p))
constant_inj (unsigned a) (unsigned b) p = ap unsigned (coded_text.inj a b (ap first p))
constant_inj (double a) (double b) p = ap double (coded_text.inj a b (ap first p))
constant_inj (string a) (string b) p = ap string (coded_text.inj a b (ap first p))
constant_inj bytes bytes p = refl
constant_inj x y p = cc

abbrev mutual
  pub code_of : Syntax → Gv
  code_of (literal x0) = gcons (gnum 0) (gcons (constant_code x0) gnil)
  code_of (name x0) = gcons (gnum 1) (gcons (coded_text.code x0) gnil)
  code_of (select x0 x1) = gcons (gnum 2) (gcons (code_of x0) (gcons (coded_text.code x1) gnil))
  code_of (optional_select x0 x1) = gcons (gnum 3) (gcons (code_of x0) (gcons (coded_text.code x1) gnil))
  code_of (present x0 x1) = gcons (gnum 4) (gcons (code_of x0) (gcons (coded_text.code x1) gnil))
  code_of (call x0 x1) = gcons (gnum 5) (gcons (coded_text.code x0) (gcons (parts_code x1) gnil))
  code_of (method x0 x1 x2) = gcons (gnum 6) (gcons (code_of x0) (gcons (coded_text.code x1) (gcons (parts_code x2) gnil)))
  code_of (list x0) = gcons (gnum 7) (gcons (elements_code x0) gnil)
  code_of (map x0) = gcons (gnum 8) (gcons (entries_code x0) gnil)
  code_of (message x0 x1) = gcons (gnum 9) (gcons (coded_text.code x0) (gcons (entries_code x1) gnil))
  code_of (unary x0 x1) = gcons (gnum 10) (gcons (unary_op.the_row.coded.code x0) (gcons (code_of x1) gnil))
  code_of (binary x0 x1 x2) = gcons (gnum 11) (gcons (binary_op.the_row.coded.code x0) (gcons (code_of x1) (gcons (code_of x2) gnil)))
  code_of (choice x0 x1 x2) = gcons (gnum 12) (gcons (code_of x0) (gcons (code_of x1) (gcons (code_of x2) gnil)))
  code_of (macro x0 x1 x2 x3) = gcons (gnum 13) (gcons (macro_op.the_row.coded.code x0) (gcons (code_of x1) (gcons (coded_text.code x2) (gcons (code_of x3) gnil))))
  code_of (map_where x0 x1 x2 x3) = gcons (gnum 14) (gcons (code_of x0) (gcons (coded_text.code x1) (gcons (code_of x2) (gcons (code_of x3) gnil))))

  pub parts_code : Parts → Gv
  parts_code no_parts = gcons (gnum 0) gnil
  parts_code (part x0 x1) = gcons (gnum 1) (gcons (code_of x0) (gcons (parts_code x1) gnil))

  pub elements_code : Elements → Gv
  elements_code no_elements = gcons (gnum 0) gnil
  elements_code (element x0 x1 x2) = gcons (gnum 1) (gcons (coded_bool.code x0) (gcons (code_of x1) (gcons (elements_code x2) gnil)))

  pub entries_code : Entries → Gv
  entries_code no_entries = gcons (gnum 0) gnil
  entries_code (entry x0 x1 x2 x3) = gcons (gnum 1) (gcons (coded_bool.code x0) (gcons (key_code x1) (gcons (code_of x2) (gcons (entries_code x3) gnil))))

  pub key_code : Key → Gv
  key_code (key x0) = gcons (gnum 0) (gcons (code_of x0) gnil)
  key_code (field x0) = gcons (gnum 1) (gcons (coded_text.code x0) gnil)

mutual
  pub code_inj : (x y : Syntax) → code_of x ≡ code_of y → x ≡ y
  code_inj (literal x0) (literal y0) p = λ i. literal (constant_inj x0 y0 (ap first p) i)
  code_inj (name x0) (name y0) p = λ i. name (coded_text.inj x0 y0 (ap first p) i)
  code_inj (select x0 x1) (select y0 y1) p = λ i. select (code_inj x0 y0 (ap first p) i) (coded_text.inj x1 y1 (ap second p) i)
  code_inj (optional_select x0 x1) (optional_select y0 y1) p = λ i. optional_select (code_inj x0 y0 (ap first p) i) (coded_text.inj x1 y1 (ap second p) i)
  code_inj (present x0 x1) (present y0 y1) p = λ i. present (code_inj x0 y0 (ap first p) i) (coded_text.inj x1 y1 (ap second p) i)
  code_inj (call x0 x1) (call y0 y1) p = λ i. call (coded_text.inj x0 y0 (ap first p) i) (parts_inj x1 y1 (ap second p) i)
  code_inj (method x0 x1 x2) (method y0 y1 y2) p = λ i. method (code_inj x0 y0 (ap first p) i) (coded_text.inj x1 y1 (ap second p) i) (parts_inj x2 y2 (ap third p) i)
  code_inj (list x0) (list y0) p = λ i. list (elements_inj x0 y0 (ap first p) i)
  code_inj (map x0) (map y0) p = λ i. map (entries_inj x0 y0 (ap first p) i)
  code_inj (message x0 x1) (message y0 y1) p = λ i. message (coded_text.inj x0 y0 (ap first p) i) (entries_inj x1 y1 (ap second p) i)
  code_inj (unary x0 x1) (unary y0 y1) p = λ i. unary (unary_op.the_row.coded.inj x0 y0 (ap first p) i) (code_inj x1 y1 (ap second p) i)
  code_inj (binary x0 x1 x2) (binary y0 y1 y2) p = λ i. binary (binary_op.the_row.coded.inj x0 y0 (ap first p) i) (code_inj x1 y1 (ap second p) i) (code_inj x2 y2 (ap third p) i)
  code_inj (choice x0 x1 x2) (choice y0 y1 y2) p = λ i. choice (code_inj x0 y0 (ap first p) i) (code_inj x1 y1 (ap second p) i) (code_inj x2 y2 (ap third p) i)
  code_inj (macro x0 x1 x2 x3) (macro y0 y1 y2 y3) p = λ i. macro (macro_op.the_row.coded.inj x0 y0 (ap first p) i) (code_inj x1 y1 (ap second p) i) (coded_text.inj x2 y2 (ap third p) i) (code_inj x3 y3 (ap fourth p) i)
  code_inj (map_where x0 x1 x2 x3) (map_where y0 y1 y2 y3) p = λ i. map_where (code_inj x0 y0 (ap first p) i) (coded_text.inj x1 y1 (ap second p) i) (code_inj x2 y2 (ap third p) i) (code_inj x3 y3 (ap fourth p) i)
  code_inj x y p = let q : number (code_of x) ≡ number (code_of y) = ap number p in absurd (omega arith)

  pub parts_inj : (x y : Parts) → parts_code x ≡ parts_code y → x ≡ y
  parts_inj no_parts no_parts p = refl
  parts_inj (part x0 x1) (part y0 y1) p = λ i. part (code_inj x0 y0 (ap first p) i) (parts_inj x1 y1 (ap second p) i)
  parts_inj x y p = cc

  pub elements_inj : (x y : Elements) → elements_code x ≡ elements_code y → x ≡ y
  elements_inj no_elements no_elements p = refl
  elements_inj (element x0 x1 x2) (element y0 y1 y2) p = λ i. element (coded_bool.inj x0 y0 (ap first p) i) (code_inj x1 y1 (ap second p) i) (elements_inj x2 y2 (ap third p) i)
  elements_inj x y p = cc

  pub entries_inj : (x y : Entries) → entries_code x ≡ entries_code y → x ≡ y
  entries_inj no_entries no_entries p = refl
  entries_inj (entry x0 x1 x2 x3) (entry y0 y1 y2 y3) p = λ i. entry (coded_bool.inj x0 y0 (ap first p) i) (key_inj x1 y1 (ap second p) i) (code_inj x2 y2 (ap third p) i) (entries_inj x3 y3 (ap fourth p) i)
  entries_inj x y p = cc

  pub key_inj : (x y : Key) → key_code x ≡ key_code y → x ≡ y
  key_inj (key x0) (key y0) p = λ i. key (code_inj x0 y0 (ap first p) i)
  key_inj (field x0) (field y0) p = λ i. field (coded_text.inj x0 y0 (ap first p) i)
  key_inj x y p = cc

abbrev pub coded_syntax : Coded Syntax
coded_syntax = record { code = code_of; inj = code_inj }

abbrev pub coded_parts : Coded Parts
coded_parts = record { code = parts_code; inj = parts_inj }

abbrev pub coded_elements : Coded Elements
coded_elements = record { code = elements_code; inj = elements_inj }

abbrev pub coded_entries : Coded Entries
coded_entries = record { code = entries_code; inj = entries_inj }
