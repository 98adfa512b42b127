-- What a function that writes a construct has done.
use Rattle.std.specs.Prelude.{◌≡◌, Bool, ◌++◌, Option, Some, None, option_map}
use Rattle.std.specs.Global.{Global}
use Rattle.std.specs.Prelude.{String}
use Rattle.std.specs.Borrow.{Bor}
use Rattle.go_text.specs.Texts.{Text, Reading}
use Rattle.go_text.specs.KitSyntax.{Construct}
use Rattle.go_text.specs.declared.carrying.Place.{Place}
use Rattle.go_text.specs.Internal.View.{text_of}

-- the reading, behind what was written before
abbrev pub behind : Text → Text × Text → Text × Text
behind before x = (before ++ x.0, x.1)

-- What the reading says was written at the end of the text, and its rest is the result. Where it refuses the text, there is no result.
abbrev pub Writes : String Global → String Global → Option (Bor Text) → Reading → Type 0
Writes old new None reading = reading ≡ None
Writes old new (Some rest) reading = option_map (behind (text_of old)) reading ≡ Some (text_of new, rest.now)

abbrev pub construct_behind : Text → Construct → Text × Bool × Text
construct_behind before x = (before ++ x.written, x.repeats, x.rest)

abbrev pub WritesConstruct : String Global → String Global → Option Place → Option Construct → Type 0
WritesConstruct old new None construct = construct ≡ None
WritesConstruct old new (Some place) construct =
    option_map (construct_behind (text_of old)) construct ≡ Some (text_of new, place.after_repetition, place.rest.now)
