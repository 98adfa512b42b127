use Rattle.std.proofs.Common.{◌≡◌, [], ◌∷◌, ◌++◌, refl, sym, ap, subst, ◌∙◌, append_assoc, append-nil}
use Rattle.jtree.proofs.MapEntries.{one_more_entry}
use Rattle.jtree.specs.Data.{AreMembers}
use Rattle.jtree.specs.Internal.Entries.{Entry, members_of_entries}
use Rattle.jtree.specs.View.{members_of}
use Rattle.jtree.proofs.read_all.members_from.Goals as goal

pub loop-name-init : goal.loop-name-init
loop-name-init c = record { done = []; entries = sym c.into_iter-name-iterator.ensures.into_iter_gives.0; read = sym (ap members_of c.in_ok-members.ensures.items) }

pub loop-name-preserved : goal.loop-name-preserved
loop-name-preserved c =
    let done = c.loop-name.invariant.done in
    let e : Entry = (c.in-Some.name, c.in-Some.tree) in
    let rest = c.next.new.self in
    record {
      done = done ++ e ∷ [];
      entries = c.loop-name.invariant.entries ∙ ap (λ es. done ++ es) c.in-Some.ensures.steps ∙ sym (append_assoc done (e ∷ []) rest);
      read = one_more_entry done e c.loop-name.members.items _ c.loop-name.invariant.read refl refl ∙ ap members_of (sym c.in_ok-push.ensures.items);
    }

pub returns : goal.returns
returns c =
    let done = c.loop-name.invariant.done in
    let all : c.args.map.entries ≡ done = c.loop-name.invariant.entries ∙ ap (λ es. done ++ es) c.in-None.ensures.steps.0 ∙ append-nil done in
    sym (ap members_of_entries all ∙ c.loop-name.invariant.read)

pub invariant_of-result : goal.invariant_of-result
invariant_of-result c = subst AreMembers (sym (returns c)) c.requires
