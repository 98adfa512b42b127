use Rattle.std.proofs.Common.{◌≡◌, ◌≤◌, ◌∙◌, List, [], ◌∷◌, length, Some, ap, refl, arith}
use Rattle.jtree.specs.Data.{Data, list}
use Rattle.jtree.specs.View.{data_of, items_of}
use Rattle.jtree.specs.declared.value.Tree.{Tree}
use Rattle.judge.specs.Keywords.{is_among, passes_enum}
use Rattle.judge.proofs.types.is_among_some.Goals as goal

some_choices : (ts : List Tree) (v : Data) → 1 ≤ length ts → is_among v (items_of ts) ≡ passes_enum (Some (list (items_of ts))) v
some_choices [] v h = absurd (omega arith)
some_choices (t ∷ ts) v h = refl

pub returns-in_default : goal.returns-in_default
returns-in_default c =
    c.is_among.ensures ∙ (some_choices c.as_slice.result.now (data_of c.args.value.now) c.in_default.len_at_least
    ∙ ap (λ ds. passes_enum (Some (list ds)) (data_of c.args.value.now)) (ap items_of c.as_slice.ensures.value ∙ c.choices.view_is))
