-- Samples that cover what is wanted: for one wanted thing after the other, the first sample that has it, where no sample has it that was
-- chosen before (this project's own).
use Rattle.std.specs.Prelude.{◌≡◌, ◌∷◌, [], ◌++◌, ◌⊎◌, ℕ, List, take, map, All, AllPairs, Contains, Bool, true}
use Rattle.jtree.specs.Data.{Data}
use Rattle.jtree.specs.Order.{tree_cmp}
use Rattle.explain.specs.Fields.Declared.{AreFields}
use Rattle.explain.specs.Fields.Field.{Field}
use Rattle.explain.specs.Fields.PathFault.{IsTextOf}
use Rattle.plan.specs.Samples.Question.{Question}
use Rattle.enumerate.specs.Least.{IsLeast}
use Rattle.enumerate.specs.Page.{IsSampleOf}
use Rattle.cover.specs.There.{is_there}
use Rattle.cover.specs.Wanted.{Wanted, AreWanted}

-- a sample in which the path is there, with the value where one is wanted
abbrev pub Has : Question → Wanted → Data → Type 0
Has q w v = IsSampleOf q v × IsTextOf (λ p. is_there w.value p v ≡ true) w.path

-- what is wanted, and a sample
pub record Line : Type 0 where
  pub wanted : Wanted
  pub object : Data

-- the lines, and what no sample has
pub record Covered : Type 0 where
  pub lines : List Line
  pub missed : List Wanted

abbrev pub objects_of : Covered → List Data
objects_of c = map (λ l. l.object) c.lines

-- the object of one of the lines has it
abbrev pub IsHadBy : Question → Wanted → List Line → Type 0
IsHadBy q w lines = (line : Line) × (Contains lines line × Has q w line.object)

-- What a wanted thing adds: nothing, where the object of a line has it; else a line with the first sample that has it; and where there is
-- none, it is missed.
pub data Adds (q : Question) (w : Wanted) (before : Covered) : Covered → Type 0 where
  had : IsHadBy q w before.lines → Adds q w before before
  first : All (λ l. ¬ Has q w l.object) before.lines → (v : Data) → IsLeast tree_cmp (Has q w) v
      → Adds q w before (record { lines = before.lines ++ record { wanted = w; object = v } ∷ []; missed = before.missed })
  never : ((v : Data) → ¬ Has q w v) → Adds q w before (record { lines = before.lines; missed = before.missed ++ w ∷ [] })

-- what the wanted things add, one after the other, to nothing
pub data AreCovered (q : Question) : List Wanted → Covered → Type 0 where
  none : AreCovered q [] (record { lines = []; missed = [] })
  more : (wanted : List Wanted) (before : Covered) (w : Wanted) (after : Covered) → AreCovered q wanted before → Adds q w before after
      → AreCovered q (wanted ++ w ∷ []) after

-- The fields are those of the question's schema, and c is what the chosen ones of their paths add, and with `values` what they lead to.
pub record IsCoverOf (values : Bool) (q : Question) (chosen : List (List ℕ) → List (List ℕ)) (fields : List Field) (c : Covered) : Type 0 where
  pub are_fields : AreFields q.root fields
  pub wanted : List Wanted
  pub are_wanted : AreWanted values q (chosen (map (λ f. f.path) fields)) wanted
  pub covered : AreCovered q wanted c

-- the cover of all declared paths, in the order of the listing
abbrev pub IsWholeCover : Bool → Question → Covered → Type 0
IsWholeCover values q c = (fields : List Field) × IsCoverOf values q (λ paths. paths) fields c

-- the cover of the first n declared paths
abbrev pub IsCoverBegun : Bool → Question → ℕ → Covered → Type 0
IsCoverBegun values q n c = (fields : List Field) × IsCoverOf values q (λ paths. take n paths) fields c

-- Each line is the first sample that has what it is for, and no object of a line before it has that. Each wanted thing is had by the
-- object of a line, or is missed; what is missed is in no sample.
pub record IsCover (q : Question) (wanted : List Wanted) (c : Covered) : Type 0 where
  pub firsts : All (λ l. IsLeast tree_cmp (Has q l.wanted) l.object) c.lines
  pub new : AllPairs (λ l m. ¬ Has q m.wanted l.object) c.lines
  pub all : All (λ w. IsHadBy q w c.lines ⊎ Contains c.missed w) wanted
  pub missed : All (λ w. (v : Data) → ¬ Has q w v) c.missed
