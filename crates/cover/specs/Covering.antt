-- A cover that is under way: the first of the declared paths are covered (this project's own).
use Rattle.std.specs.Prelude.{◌≡◌, ℕ, ◌+◌, ◌<◌, ◌++◌, refl, List, [], length, take, Bool, Option}
use Rattle.std.specs.Coded.{Coded, code_by, coded×, coded_bool, coded_list, coded_option, coded_ℕ}
use Rattle.jtree.specs.Data.{Data}
use Rattle.jtree.specs.Internal.Code.{coded_bytes, data_coded}
use Rattle.explain.specs.Fields.Field.{Field}
use Rattle.explain.specs.Internal.FieldCode.{fields_coded}
use Rattle.plan.specs.Samples.Question.{Question, question_coded}
use Rattle.cover.specs.Cover.{Line, Covered, IsCoverOf}
use Rattle.cover.specs.Wanted.{Wanted}

-- the question and the fields of its schema, how many of them are covered, and what they come to
pub record Covering : Type 0 where
  pub question : Question
  pub values : Bool
  pub fields : List Field
  pub count : ℕ
  pub covered : Covered

abbrev wanted_coded : Coded Wanted
wanted_coded = code_by (List ℕ × Option Data) (coded× coded_bytes (coded_option data_coded)) (λ w. (w.path, w.value)) (λ p. record { path = p.0; value = p.1 }) (λ _. refl)

abbrev line_coded : Coded Line
line_coded = code_by (Wanted × Data) (coded× wanted_coded data_coded) (λ l. (l.wanted, l.object)) (λ p. record { wanted = p.0; object = p.1 }) (λ _. refl)

abbrev covered_coded : Coded Covered
covered_coded = code_by (List Line × List Wanted) (coded× (coded_list line_coded) (coded_list wanted_coded)) (λ c. (c.lines, c.missed)) (λ p. record { lines = p.0; missed = p.1 }) (λ _. refl)

abbrev pub covering_coded : Coded Covering
covering_coded = code_by ((Question × Bool) × (List Field × (ℕ × Covered))) (coded× (coded× question_coded coded_bool) (coded× fields_coded (coded× coded_ℕ covered_coded)))
    (λ c. ((c.question, c.values), (c.fields, (c.count, c.covered))))
    (λ p. record { question = p.0.0; values = p.0.1; fields = p.1.0; count = p.1.1.0; covered = p.1.1.1 })
    (λ _. refl)

-- it is the cover of as many of the first declared paths as are covered
abbrev pub IsCoverOfFirst : Covering → Type 0
IsCoverOfFirst c = IsCoverOf c.values c.question (λ paths. take c.count paths) c.fields c.covered

-- no path is covered yet
pub record IsBegun (q : Question) (values : Bool) (c : Covering) : Type 0 where
  pub question : c.question ≡ q
  pub values_are : c.values ≡ values
  pub covered : c.covered ≡ record { lines = []; missed = [] }
  pub cover : IsCoverOfFirst c

-- the next path is covered too, where one is left; the lines so far stay
pub record IsAdvanced (old new : Covering) : Type 0 where
  pub question : new.question ≡ old.question
  pub values : new.values ≡ old.values
  pub fields : new.fields ≡ old.fields
  pub count : old.count < length old.fields → new.count ≡ old.count + 1
  pub lines : (more : List Line) × (new.covered.lines ≡ old.covered.lines ++ more)
  pub cover : IsCoverOfFirst new
