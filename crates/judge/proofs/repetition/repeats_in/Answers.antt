use Rattle.std.proofs.Common.{◌∙◌, Option, None, sym, ap, option_map, Bor, refl}
use Rattle.jtree.specs.Path.{item_at}
use Rattle.jtree.specs.View.{data_of, items_of}
use Rattle.jtree.specs.declared.value.Tree.{Tree}
use Rattle.judge.specs.Keywords.{any_before, any_before_if, are_alike, names}
use Rattle.judge.proofs.CountLemmas.{item_there}
use Rattle.judge.proofs.RepetitionLemmas.{never_if}
use Rattle.judge.proofs.repetition.repeats_in.Goals as goal

pub returns-in-Some : goal.returns-in-Some
returns-in-Some c =
    let alike = are_alike (option_map (λ (t : Bor Tree). data_of t.now) c.args.list_type) (names (option_map (λ (t : Bor Tree). data_of t.now) c.args.keys)) in
    let ds = items_of c.args.items.now in
    let x = c.index-items-index.result in
    c.is_like_earlier.ensures ∙ (ap (λ (y : Tree). any_before alike c.args.index ds (data_of y)) c.index-items-index.is
    ∙ sym (ap (any_before_if alike c.args.index ds) (item_there c.args.items.now c.args.index x c.requires)))

pub returns-in-None : goal.returns-in-None
returns-in-None c =
    let keys = names (option_map (λ (t : Bor Tree). data_of t.now) c.args.keys) in
    let ds = items_of c.args.items.now in
    let o = item_at c.args.index ds in
    sym (ap (λ (l : Option (Bor Tree)). any_before_if (are_alike (option_map (λ (t : Bor Tree). data_of t.now) l) keys) c.args.index ds o) c.in-None.is
    ∙ never_if (are_alike None keys) (λ v w. refl) c.args.index ds o)
