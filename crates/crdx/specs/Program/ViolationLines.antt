-- What is printed of the violations of a schema: a line for each, and with `--why` a line for each of its reasons below it (this
-- project's own).
use Rattle.std.specs.Prelude.{ℕ, List, ◌++◌, flat_map, codes}
use Rattle.jtree.specs.Data.{text}
use Rattle.jtree.specs.Text.{compact}
use Rattle.schema.specs.Rules.Breaks.{Reported, reported, rule_name}
use Rattle.schema.specs.declared.reason.Finding.{Finding}
use Rattle.schema.specs.declared.reason.Explained.{Explained}
use Rattle.crdx.specs.Program.Phrases.{phrase_of, reason_phrase_of}

-- the rule, the pointer of the place as a JSON text, and what is wrong there
abbrev pub violation_line : Reported → List ℕ
violation_line t = rule_name t.rule ++ (codes " " ++ (compact (text t.pointer) ++ (codes " " ++ (phrase_of t.rule ++ codes "\n"))))

abbrev pub violation_lines : List Reported → List ℕ
violation_lines ts = flat_map violation_line ts

-- by four spaces, the keyword as a JSON text, and what is wrong with it and what can be done
abbrev pub reason_line : Finding → List ℕ
reason_line f = codes "    " ++ (compact (text f.keyword) ++ (codes ": " ++ (reason_phrase_of f.reason ++ codes "\n")))

abbrev pub reason_lines : List Finding → List ℕ
reason_lines fs = flat_map reason_line fs

abbrev pub explained_line : Explained → List ℕ
explained_line e = violation_line (reported e.violation) ++ reason_lines e.findings.items

abbrev pub explained_lines : List Explained → List ℕ
explained_lines es = flat_map explained_line es
