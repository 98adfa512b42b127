-- What a cover of the code represents.
use Rattle.std.specs.Prelude.{List, map, option_map}
use Rattle.jtree.specs.View.{data_of}
use Rattle.cover.specs.Wanted.{Wanted}
use Rattle.cover.specs.Cover.{Line, Covered}
use Rattle.cover.specs.declared.covering.Wanted.{Wanted as CodeWanted}
use Rattle.cover.specs.declared.covering.Line.{Line as CodeLine}
use Rattle.cover.specs.declared.covering.Covered.{Covered as CodeCovered}

abbrev pub wanted_of : CodeWanted → Wanted
wanted_of w = record { path = w.path; value = option_map data_of w.value }

abbrev pub line_of : CodeLine → Line
line_of l = record { wanted = wanted_of l.wanted; object = data_of l.tree }

abbrev pub lines_of : List CodeLine → List Line
lines_of ls = map line_of ls

abbrev pub covered_of : CodeCovered → Covered
covered_of c = record { lines = lines_of c.lines.items; missed = map wanted_of c.missed.items }
