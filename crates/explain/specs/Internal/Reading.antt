-- For private contracts: how the text of a path is read, byte by byte.
use Rattle.std.specs.Prelude.{◌≡◌, ◌==◌, ◌||◌, ℕ, List, [], ◌∷◌, ◌++◌, Bool, true, false, if◌then◌else◌}
use Rattle.explain.specs.Paths.FieldPath.{FieldStep, FieldPath}
use Rattle.explain.specs.Paths.PathText.{step_text, path_text}
use Rattle.explain.specs.declared.reading.Stage.{Stage}
use Rattle.explain.specs.declared.reading.Stage.TheVariants.{Between, Step, Name, Escape, Item, Value, Wrong}

-- ---- the texts of paths

abbrev pub IsPathText : List ℕ → Type 0
IsPathText text = (p : FieldPath) × (path_text p ≡ text)

-- after a letter of a name, or before one
abbrev pub in_name : ℕ → Stage
in_name b = if b == 47 then Step else (if b == 126 then Escape else (if b == 91 then Wrong else (if b == 123 then Wrong else Name)))

abbrev pub after_byte : Stage → ℕ → Stage
after_byte Between b = if b == 47 then Step else Wrong
after_byte Step b = if b == 91 then Item else (if b == 123 then Value else in_name b)
after_byte Name b = in_name b
after_byte Escape b = if b == 48 || b == 49 || b == 50 || b == 51 then Name else Wrong
after_byte Item b = if b == 93 then Between else Wrong
after_byte Value b = if b == 125 then Between else Wrong
after_byte Wrong b = Wrong

abbrev pub may_end : Stage → Bool
may_end Between = true
may_end Step = true
may_end Name = true
may_end _ = false

-- the rest of the text is read without a fault from a stage on
abbrev pub is_read : Stage → List ℕ → Bool
is_read stage [] = may_end stage
is_read stage (b ∷ bs) = is_read (after_byte stage b) bs

-- ---- the text of one step

-- a step ends here
abbrev pub IsEnd : List ℕ → Type 0
IsEnd [] = Unit {0}
IsEnd (b ∷ bs) = b ≡ 47

-- the text is that of the step and the rest
abbrev pub IsAfterStep : FieldStep → List ℕ → List ℕ → Type 0
IsAfterStep s text rest = IsEnd rest × (text ≡ step_text s ++ rest)
