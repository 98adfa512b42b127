-- What a call of a sink makes of its count of failures (this project's own).
use Rattle.std.specs.Prelude.{ℕ, ◌==◌, List, length, if◌then◌else◌, Result, Ok, Err}
use Rattle.jtree.specs.Failures.{one_more}

-- an error is one failure, and so is a sink that takes nothing of what it is given
abbrev pub failures_after : {E : Type 0} → ℕ → Result ℕ E → List ℕ → ℕ
failures_after old (Err e) bytes = one_more old
failures_after old (Ok n) bytes = if n == 0 then (if length bytes == 0 then old else one_more old) else old
