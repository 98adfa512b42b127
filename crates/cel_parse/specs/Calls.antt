-- What a call is, by its name and its arguments: one of the macros of the Common Expression Language's specification (langdef.md, "Macros"), or
-- else a call. `None`: its arguments are not what the macro asks for.
use Rattle.std.specs.Prelude.{nat_eq, ◌&&◌, List, [], ◌∷◌, length, Option, Some, None, option_map, if◌then◌else◌}
use Rattle.cel_ast.specs.Syntax.{Text, Syntax, name, select, present, call, method, macro, map_where, parts}
use Rattle.cel_ast.specs.declared.operators.Macro.{Macro}
use Rattle.cel_ast.specs.declared.operators.Macro.TheVariants.{All, Exists, ExistsOne, Filter, Map}
use Rattle.cel_read.specs.Lexemes.{spells}

-- what `e.f` selects from what
abbrev pub selection : Syntax → Option (Syntax × Text)
selection (select e f) = Some (e, f)
selection _ = None

-- `has(e.f)`
abbrev pub presence : List Syntax → Option Syntax
presence (e ∷ []) = option_map (λ r. present r.0 r.1) (selection e)
presence _ = None

abbrev pub call_of : Text → List Syntax → Option Syntax
call_of f es = if spells "has" f && nat_eq (length es) 1 then presence es else Some (call f (parts es))

-- the macro of this name that binds a name for one expression
abbrev pub macro_of : Text → Option Macro
macro_of f =
    if spells "all" f then Some All
    else if spells "exists" f then Some Exists
    else if spells "exists_one" f then Some ExistsOne
    else if spells "filter" f then Some Filter
    else if spells "map" f then Some Map
    else None

abbrev pub simple_name : Syntax → Option Text
simple_name (name x) = Some x
simple_name _ = None

-- the name that is bound, and the expression after it
abbrev pub bound : List Syntax → Option (Text × Syntax)
bound (e ∷ p ∷ []) = option_map (λ x. (x, p)) (simple_name e)
bound _ = None

abbrev pub binding : Macro → Syntax → List Syntax → Option Syntax
binding m e es = option_map (λ b. macro m e b.0 b.1) (bound es)

-- `e.map(x, p, t)`
abbrev pub mapping : Syntax → List Syntax → Option Syntax
mapping e (x ∷ p ∷ t ∷ []) = option_map (λ b. map_where e b.0 b.1 t) (bound (x ∷ p ∷ []))
mapping e _ = None

abbrev pub of_two : Option Macro → Syntax → Text → List Syntax → Option Syntax
of_two None e f es = Some (method e f (parts es))
of_two (Some m) e f es = binding m e es

abbrev pub method_of : Syntax → Text → List Syntax → Option Syntax
method_of e f es =
    if nat_eq (length es) 2 then of_two (macro_of f) e f es
    else if nat_eq (length es) 3 && spells "map" f then mapping e es
    else Some (method e f (parts es))
