-- Reading a whole list of tokens.
use Rattle.std.proofs.Common.{◌≡◌, ◌≢◌, ◌∙◌, ℕ, List, [], ◌∷◌, length, refl, sym, arith}
use Rattle.cel_ast.specs.Syntax.{Syntax}
use Rattle.cel_read.specs.View.{token_lexemes}
use Rattle.cel_read.specs.declared.token.Token.{Token}
use Rattle.cel_parse.specs.Forms.{Tokens}
use Rattle.cel_parse.specs.Grammar.{IsExpr}
use Rattle.cel_parse.specs.Internal.Readers.{none, found}
use Rattle.cel_parse.specs.Internal.Reading.{read_expr}
use Rattle.cel_parse.proofs.Parts.{found_left}
use Rattle.cel_parse.proofs.Sound.{expr_sound}
use Rattle.cel_parse.proofs.Complete.{expr_complete}

complete : (d : ℕ) (ws : Tokens) (e : Syntax) → IsExpr d ws e → read_expr d ws ≡ found e []
complete d ws e h = expr_complete d ws e [] h tt

pub one : (d : ℕ) (ws : Tokens) (e f : Syntax) → IsExpr d ws e → IsExpr d ws f → e ≡ f
one d ws e f h k = found_left e f [] [] (sym (complete d ws e h) ∙ complete d ws f k)

-- ---- what the code answers

pub none_read : (d : ℕ) (ws : Tokens) (e : Syntax) → read_expr d ws ≡ none → IsExpr d ws e → ⊥
none_read d ws e h k = let q : none ≡ found e [] = sym h ∙ complete d ws e k in cc

pub rest_read : (d : ℕ) (ws : Tokens) (a e : Syntax) (ts : List Token) → read_expr d ws ≡ found a (token_lexemes ts) → length ts ≢ 0 → IsExpr d ws e → ⊥
rest_read d ws a e [] h n k = n refl
rest_read d ws a e (t ∷ ts) h n k = let q : found a (token_lexemes (t ∷ ts)) ≡ found e [] = sym h ∙ complete d ws e k in cc

pub whole_read : (d : ℕ) (ws : Tokens) (a : Syntax) (ts : List Token) → read_expr d ws ≡ found a (token_lexemes ts) → length ts ≡ 0 → IsExpr d ws a
whole_read d ws a [] h n = expr_sound d ws a [] h
whole_read d ws a (t ∷ ts) h n = absurd (omega arith)
