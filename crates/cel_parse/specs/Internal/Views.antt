-- What values of the code are to private contracts.
use Rattle.std.specs.Prelude.{◌<◌, ◌≤◌, ⊤, ℕ, List, length}
use Rattle.std.specs.Borrow.{Bor}
use Rattle.cel_ast.specs.Syntax.{Text, Constant}
use Rattle.cel_ast.specs.View.{constant_of}
use Rattle.cel_ast.specs.declared.literal.Literal.{Literal}
use Rattle.cel_ast.specs.declared.operators.Unary.TheVariants.{Not, Negate}
use Rattle.cel_read.specs.View.{text_of, token_lexemes}
use Rattle.cel_read.specs.declared.token.Token.{Token}
use Rattle.cel_parse.specs.Forms.{Tokens}
use Rattle.cel_parse.specs.Internal.Reading as spec
use Rattle.cel_parse.specs.declared.names.NamePart.{NamePart}
use Rattle.cel_parse.specs.declared.names.NamePart.TheVariants as name_part
use Rattle.cel_parse.specs.declared.signs.Signs.{Signs}
use Rattle.cel_parse.specs.declared.signs.Signs.TheVariants as signs
use Rattle.cel_parse.specs.declared.start.Start.{Start}
use Rattle.cel_parse.specs.declared.start.Start.TheVariants as start
use Rattle.cel_parse.specs.declared.members.Next.{Next}
use Rattle.cel_parse.specs.declared.members.Next.TheVariants as next

abbrev pub part_of : NamePart → spec.NamePart
part_of (name_part.Last x ts) = spec.last (text_of x.now) (token_lexemes ts.now)
part_of (name_part.Before x ts) = spec.before (text_of x.now) (token_lexemes ts.now)
part_of name_part.Neither = spec.neither

abbrev pub IsPartShorter : NamePart → ℕ → Type 0
IsPartShorter (name_part.Last x ts) n = length ts.now < n
IsPartShorter (name_part.Before x ts) n = length ts.now < n
IsPartShorter name_part.Neither n = ⊤

abbrev pub name_parts : List ℕ × Bor (List Token) → Text × Tokens
name_parts p = (p.0, token_lexemes p.1.now)

abbrev pub literal_parts : Literal × Bor (List Token) → Constant × Tokens
literal_parts p = (constant_of p.0, token_lexemes p.1.now)

abbrev pub counted : ℕ × Bor (List Token) → ℕ × Tokens
counted p = (p.0, token_lexemes p.1.now)

abbrev pub sign_of : Signs → spec.Sign
sign_of (signs.Some Not n ts) = spec.not_sign n (token_lexemes ts.now)
sign_of (signs.Some Negate n ts) = spec.minus_sign n (token_lexemes ts.now)
sign_of signs.Neither = spec.no_sign

abbrev pub IsSignShorter : Signs → ℕ → Type 0
IsSignShorter (signs.Some o n ts) m = length ts.now ≤ m
IsSignShorter signs.Neither m = ⊤

abbrev pub start_of : Start → spec.Start
start_of (start.Literal c ts) = spec.a_literal (constant_of c) (token_lexemes ts.now)
start_of (start.Message x ts) = spec.a_message x (token_lexemes ts.now)
start_of (start.Call x ts) = spec.a_call x (token_lexemes ts.now)
start_of (start.Name x ts) = spec.a_name x (token_lexemes ts.now)
start_of (start.Parenthesis ts) = spec.opened (token_lexemes ts.now)
start_of (start.Bracket ts) = spec.listed (token_lexemes ts.now)
start_of (start.Brace ts) = spec.mapped (token_lexemes ts.now)
start_of start.Wrong = spec.wrong

abbrev pub IsStartShorter : Start → ℕ → Type 0
IsStartShorter (start.Literal c ts) n = length ts.now < n
IsStartShorter (start.Message x ts) n = length ts.now < n
IsStartShorter (start.Call x ts) n = length ts.now < n
IsStartShorter (start.Name x ts) n = length ts.now < n
IsStartShorter (start.Parenthesis ts) n = length ts.now < n
IsStartShorter (start.Bracket ts) n = length ts.now < n
IsStartShorter (start.Brace ts) n = length ts.now < n
IsStartShorter start.Wrong n = ⊤

abbrev pub next_of : Next → spec.Next
next_of (next.Field o x ts) = spec.a_select o (text_of x.now) (token_lexemes ts.now)
next_of (next.Method x ts) = spec.a_method (text_of x.now) (token_lexemes ts.now)
next_of (next.Index o ts) = spec.an_index o (token_lexemes ts.now)
next_of next.Cut = spec.cut
next_of next.Ended = spec.ended

abbrev pub IsNextShorter : Next → ℕ → Type 0
IsNextShorter (next.Field o x ts) n = length ts.now < n
IsNextShorter (next.Method x ts) n = length ts.now < n
IsNextShorter (next.Index o ts) n = length ts.now < n
IsNextShorter _ n = ⊤
