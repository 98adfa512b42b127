use Rattle.std.proofs.Common.{◌≡◌, ◌-◌, drop, option_map, Bor}
use Rattle.jtree.specs.View.{data_of, items_of}
use Rattle.jtree.specs.declared.value.Tree.{Tree}
use Rattle.judge.specs.Keywords.{any_before, are_alike, names}
use Rattle.judge.proofs.repetition.is_like_earlier.Given as goal

abbrev pub invariant-loop-i : goal.invariant-loop-i
invariant-loop-i l =
    let alike = are_alike (option_map (λ (t : Bor Tree). data_of t.now) l.list_type) (names (option_map (λ (t : Bor Tree). data_of t.now) l.keys)) in
    any_before alike (l.index - l.i) (items_of (drop l.i l.items)) (data_of l.item) ≡ any_before alike l.index (items_of l.items) (data_of l.item)
