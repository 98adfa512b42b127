-- The plain data that values of the code represent.
use Rattle.std.specs.Prelude.{Bool, List, map}
use Rattle.cel_ast.specs.Syntax as plain
use Rattle.cel_ast.specs.declared.literal.Literal.{Literal}
use Rattle.cel_ast.specs.declared.literal.Literal.TheVariants as literal
use Rattle.cel_ast.specs.declared.expr.Expr.{Expr}
use Rattle.cel_ast.specs.declared.expr.Expr.TheVariants as expr
use Rattle.cel_ast.specs.declared.expr.Element.{Element}
use Rattle.cel_ast.specs.declared.expr.Entry.{Entry}
use Rattle.cel_ast.specs.declared.expr.Key.{Key}
use Rattle.cel_ast.specs.declared.expr.Key.TheVariants as key

abbrev pub constant_of : Literal → plain.Constant
constant_of literal.Null = plain.null
constant_of (literal.Bool b) = plain.boolean b
constant_of (literal.Int z) = plain.integer z
constant_of (literal.Uint t) = plain.unsigned t
constant_of (literal.Double t) = plain.double t
constant_of (literal.String t) = plain.string t
constant_of literal.Bytes = plain.bytes

abbrev pub syntax_of : Expr → plain.Syntax
syntax_of (expr.Literal c) = plain.literal (constant_of c)
syntax_of (expr.Name x) = plain.name x
syntax_of (expr.Select e f) = plain.select e f
syntax_of (expr.OptionalSelect e f) = plain.optional_select e f
syntax_of (expr.Present e f) = plain.present e f
syntax_of (expr.Call f ps) = plain.call f ps
syntax_of (expr.Method e f ps) = plain.method e f ps
syntax_of (expr.List es) = plain.list es
syntax_of (expr.Map es) = plain.map es
syntax_of (expr.Message n es) = plain.message n es
syntax_of (expr.Unary o e) = plain.unary o e
syntax_of (expr.Binary o a b) = plain.binary o a b
syntax_of (expr.Choice c a b) = plain.choice c a b
syntax_of (expr.Macro m e x body) = plain.macro m e x body
syntax_of (expr.MapWhere e x p t) = plain.map_where e x p t

abbrev pub key_of : Key → plain.Key
key_of (key.Expr e) = plain.key e
key_of (key.Field f) = plain.field f

abbrev pub element_of : Element → Bool × plain.Syntax
element_of e = (e.optional, e.expr)

abbrev pub entry_of : Entry → Bool × plain.Key × plain.Syntax
entry_of e = (e.optional, key_of e.key, e.value)

abbrev pub elements_of : List Element → plain.Elements
elements_of es = plain.elements (map element_of es)

abbrev pub entries_of : List Entry → plain.Entries
entries_of es = plain.entries (map entry_of es)
