-- A part of an expression nests less deep than the whole: the measure of recursions over an expression.
use Rattle.std.specs.Prelude.{◌≤◌, max, List, [], ◌∷◌}
use Rattle.std.proofs.Common.{◌+◌, arith}
use Rattle.cel_ast.specs.Syntax.{Syntax, parts, height, parts_height, elements_height, entries_height, key_height}
use Rattle.cel_ast.specs.View.{syntax_of, elements_of, entries_of, key_of}
use Rattle.cel_ast.specs.declared.expr.Expr.{Expr}
use Rattle.cel_ast.specs.declared.expr.Expr.TheVariants as expr
use Rattle.cel_ast.specs.declared.expr.Element.{Element}
use Rattle.cel_ast.specs.declared.expr.Entry.{Entry}
use Rattle.cel_ast.specs.declared.expr.Key.{Key}
use Rattle.cel_ast.specs.declared.expr.Key.TheVariants as key
use Rattle.cel_ast.specs.declared.expr.Elements.TheDeep.{deep-Expr, deep-Element, deep-Entry, deep-Key}
use denote.Param.Weighed.{most}

expr_decreases : (e : Expr) → deep-Expr e ≤ height (syntax_of e)
expr_decreases (expr.Literal c) = omega arith
expr_decreases (expr.Name x) = omega arith
expr_decreases (expr.Select e f) = omega arith
expr_decreases (expr.OptionalSelect e f) = omega arith
expr_decreases (expr.Present e f) = omega arith
expr_decreases (expr.Call f ps) = omega arith
expr_decreases (expr.Method e f ps) = omega arith
expr_decreases (expr.List es) = omega arith
expr_decreases (expr.Map es) = omega arith
expr_decreases (expr.Message n es) = omega arith
expr_decreases (expr.Unary o e) = omega arith
expr_decreases (expr.Binary o a b) = omega arith
expr_decreases (expr.Choice c a b) = omega arith
expr_decreases (expr.Macro m e x body) = omega arith
expr_decreases (expr.MapWhere e x p t) = omega arith

pub part_decreases : (e : Expr) → max (deep-Expr e) 0 ≤ height (syntax_of e)
part_decreases e = omega (arith, expr_decreases e)

pub parts_decrease : (es : List Syntax) → max (most (λ e. height e + 1) es) 0 ≤ parts_height (parts es)
parts_decrease [] = omega arith
parts_decrease (e ∷ es) = omega (arith, parts_decrease es)

key_decreases : (k : Key) → deep-Key k ≤ key_height (key_of k)
key_decreases (key.Expr e) = omega arith
key_decreases (key.Field f) = omega arith

pub elements_decrease : (es : List Element) → max (most (λ e. deep-Element e) es) 0 ≤ elements_height (elements_of es)
elements_decrease [] = omega arith
elements_decrease (e ∷ es) = omega (arith, elements_decrease es)

pub entries_decrease : (es : List Entry) → max (most (λ e. deep-Entry e) es) 0 ≤ entries_height (entries_of es)
entries_decrease [] = omega arith
entries_decrease (e ∷ es) = omega (arith, key_decreases e.key, entries_decrease es)
