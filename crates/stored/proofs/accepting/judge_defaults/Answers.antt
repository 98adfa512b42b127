use Rattle.std.proofs.Common.{subst, rules}
use Rattle.std.proofs.lemmas.List.{nil_from_length}
use Rattle.std.specs.Prelude.{map, [], true}
use Rattle.schema.specs.Rules.Breaks.{reported}
use Rattle.stored.specs.Internal.DefaultList.{defaults_of, AreAdded}
use Rattle.stored.proofs.DefaultListLemmas.{is_accepted, is_refused}
use Rattle.stored.proofs.accepting.judge_defaults.Goals as goal

pub returns-then-is_empty-clause-accepted : goal.returns-then-is_empty-clause-accepted
returns-then-is_empty-clause-accepted c = is_accepted c.args.raw.now c.args.shape c.in-Ok.found.items c.tree.ensures.forms c.requires.unbroken c.requires.nodes
    (λ M nodes. c.nodes_are_unique.ensures M c.args.shape c.args.raw.now true nodes c.requires.nodes)
    (subst (λ N. AreAdded [] (defaults_of N) [] (map reported c.in-Ok.found.items)) c.root.ensures.node c.in-Ok.ensures)
    (search (rules, nil_from_length))

pub returns-else-is_empty-clause-refused : goal.returns-else-is_empty-clause-refused
returns-else-is_empty-clause-refused c = (
  is_refused c.args.raw.now c.args.shape c.in-Ok.found.items c.requires.unbroken c.requires.nodes
      (λ M nodes. c.nodes_are_unique.ensures M c.args.shape c.args.raw.now true nodes c.requires.nodes)
      (subst (λ N. AreAdded [] (defaults_of N) [] (map reported c.in-Ok.found.items)) c.root.ensures.node c.in-Ok.ensures),
  search (rules, nil_from_length),
)
