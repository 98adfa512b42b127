-- What values of the code are to private contracts.
use Rattle.std.specs.Global.{Global}
use Rattle.std.specs.Prelude.{String}
use Rattle.std.specs.Borrow.{Bor}
use Rattle.std.specs.Prelude.{[], ◌∷◌, ◌++◌, Option, Some, None, codes, chars, string_bytes}
use Rattle.go_text.specs.Texts.{Text}
use Rattle.go_text.specs.Literals.{escaped, literals}
use Rattle.go_text.specs.declared.piece.Piece.{Piece}
use Rattle.go_text.specs.declared.piece.Piece.TheVariants.{Fixed, Plain, Escaped, Lazy, Literals, Copied}
use Rattle.go_text.specs.declared.piece.Found.{Found}
use Rattle.go_text.specs.declared.brackets.Member.{Member}
use Rattle.go_text.specs.declared.carrying.Step.{Step}
use Rattle.go_text.specs.KitSyntax.{Construct}

-- the characters of a text
abbrev pub text_of : String Global → Text
text_of s = chars (string_bytes s)

-- what is written for a piece
abbrev pub piece_text : Piece → Text
piece_text (Fixed t) = t.text.now
piece_text (Plain c) = c ∷ []
piece_text (Escaped c) = escaped c
piece_text (Lazy c) = c ∷ codes "?"
piece_text (Literals cs) = literals cs.now
piece_text (Copied before part after) = before.text.now ++ part.now ++ after.text.now

abbrev pub found_of : Found → Text × Text
found_of f = (piece_text f.piece, f.rest.now)

-- both parts of a text that was cut
abbrev pub parts_of : Bor Text × Bor Text → Text × Text
parts_of x = (x.0.now, x.1.now)

abbrev pub range_text : Text → Option Piece → Text
range_text low None = low
range_text low (Some high) = low ++ codes "-" ++ piece_text high

abbrev pub member_of : Member → Text × Text
member_of m = (range_text (piece_text m.low) m.high, m.rest.now)

abbrev pub step_of : Step → Construct
step_of s = record { written = piece_text s.piece; repeats = s.place.after_repetition; rest = s.place.rest.now }
