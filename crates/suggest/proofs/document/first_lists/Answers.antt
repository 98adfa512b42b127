use Rattle.std.proofs.Common.{◌≡◌, ◌∙◌, IfOk, take, sym, ap, subst}
use Rattle.std.specs.List.{fold}
use Rattle.std.proofs.lemmas.List.{take-map, take_min}
use Rattle.suggest.specs.Internal.Parts.{entry_of, entries_of}
use Rattle.suggest.specs.Suggested.Document.{with_entry, members_from}
use Rattle.suggest.proofs.document.first_lists.Goals as goal

pub returns : goal.returns
returns c =
    let xs = c.args.lists.now in
    let most = c.args.most in
    let lists : entries_of (take c.min.result xs) ≡ take most (entries_of xs) = ap entries_of (ap (λ n. take n xs) c.min.ensures ∙ take_min most xs) ∙ sym (take-map entry_of most xs) in
    let is : fold with_entry c.no_members.result (entries_of (take c.min.result xs)) ≡ members_from (take most (entries_of xs)) = λ j. fold with_entry (c.no_members.ensures j) (lists j) in
    subst (λ x. IfOk c.with_lists.result (λ ms. ms ≡ x)) is c.with_lists.ensures
