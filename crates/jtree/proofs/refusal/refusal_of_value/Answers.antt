use Rattle.std.proofs.Common.{ap, ◌∙◌, inl, inr}
use Rattle.serde_json.specs.View.{view}
use Rattle.jtree.specs.Pointer.{pointer}
use Rattle.jtree.specs.Reads.{tree_of}
use Rattle.jtree.specs.Refusal.{value_at}
use Rattle.jtree.specs.Internal.Lookups.{option_cases}
use Rattle.jtree.specs.Internal.Steps.{path_of}
use Rattle.jtree.proofs.OtherNumber.{no_tree}
use Rattle.jtree.proofs.refusal.refusal_of_value.Goals as goal

pub returns-in_default : goal.returns-in_default
returns-in_default c = elim (option_cases (tree_of (view c.args.value.now))) [
  | inl none ↦ let some = rw (c.in_default.is, none) at c.in_ok-path.ensures in cc
  | inr tree ↦ (tree.0, (c.requires.short, view c.args.value.now, c.requires.json, tree.1))
]

pub returns : goal.returns
returns c =
    let v = view c.args.value.now in
    let path = path_of c.in-Some.path.items in
    let first = rw c.in-Some.is at c.in_ok-path.ensures in (
      (c.requires.short, (v, c.requires.json, no_tree v path first.here)),
      v,
      c.requires.json,
      record {
        path = path;
        first = first;
        pointed = c.in_ok-pointer_text.ensures ∙ ap (λ p. pointer (path_of p)) c.deref-2.ensures.value;
        read = c.in_ok-number_text.ensures v c.requires.json ∙ ap (λ p. value_at v (path_of p)) c.deref.ensures.value;
      },
    )
