-- The name of a message's type, part by part.
use Rattle.std.proofs.Common.{◌≡◌, ◌∙◌, [], ◌∷◌, ◌++◌, Option, Some, None, option_map, refl, sym, ap, append_assoc}
use Rattle.cel_ast.specs.Syntax.{Text}
use Rattle.cel_read.specs.Lexemes as token
use Rattle.cel_read.specs.declared.token.Symbol.TheVariants.{Dot, LeftBrace}
use Rattle.cel_parse.specs.Forms.{Tokens}
use Rattle.cel_parse.specs.Internal.Reading.{before, name_part, with_beginning, with_front, type_at}

type_before : (ws us : Tokens) (x : Text) → before x us ≡ name_part ws → type_at ws ≡ option_map (with_front x) (type_at us)
type_before (token.name y ∷ token.symbol Dot ∷ ws) us x h = cc
type_before (token.name y ∷ token.symbol LeftBrace ∷ ws) us x h = cc
type_before _ us x h = cc

with_more : (p q x : Text) (o : Option (Text × Tokens)) → q ≡ (p ++ x) ++ 0x2E ∷ [] → option_map (with_beginning q) o ≡ option_map (with_beginning p) (option_map (with_front x) o)
with_more p q x None e = refl
with_more p q x (Some r) e =
    let same : q ++ r.0 ≡ p ++ (x ++ 0x2E ∷ r.0) = ap (λ t. t ++ r.0) e ∙ append_assoc (p ++ x) (0x2E ∷ []) r.0 ∙ append_assoc p x (0x2E ∷ r.0) in
    ap (λ t. Some (t, r.1)) same

pub part_more : (p q x : Text) (ws us : Tokens) → q ≡ (p ++ x) ++ 0x2E ∷ [] → before x us ≡ name_part ws → option_map (with_beginning q) (type_at us) ≡ option_map (with_beginning p) (type_at ws)
part_more p q x ws us e h = with_more p q x (type_at us) e ∙ ap (option_map (with_beginning p)) (sym (type_before ws us x h))
