use Rattle.std.proofs.Common.{◌∙◌, ◌++◌, map, take, ap}
use Rattle.std.specs.Prelude.{codes, filter, not}
use Rattle.jtree.specs.Data.{list, text, object}
use Rattle.schema.specs.Document.Texts.{is_among}
use Rattle.suggest.specs.View.{trees_of, texts_at}
use Rattle.suggest.specs.Internal.Parts.{general_of, suggestions_of, entries_of, with_lists_member, with_texts_member, with_values_member}
use Rattle.suggest.specs.Suggested.Chosen.{chosen_names}
use Rattle.jtree.specs.MemberPlace.{with_member}
use Rattle.suggest.specs.Suggested.Document.{items_of, members_from, without_entry, usual_names}
use Rattle.suggest.proofs.DocumentLemmas.{in_place}
use Rattle.suggest.proofs.document.write_document.Goals as goal

pub returns : goal.returns
returns c =
    let G = general_of c.args.general.now in
    let s = suggestions_of c.args.suggestions.now in
    let ws = texts_at c.args.without.now in
    let limits = c.args.general.now.limits in
    let any = c.in_ok-list.ensures ∙ ap (λ ts. list (items_of (trees_of ts))) c.deref.ensures.value in
    let fixed = c.in_ok-fixed.ensures ∙ ap (λ es. members_from (entries_of es ++ map without_entry ws)) c.deref-2.ensures.value in
    let integers = c.in_ok-list-2.ensures ∙ ap (λ ts. list (items_of (trees_of ts))) c.deref-3.ensures.value in
    let named = c.deref-5.ensures.value ∙ (c.in_ok-names.ensures ∙ ap (λ ks. chosen_names limits.names (ks ++ usual_names)) c.deref-4.ensures.value) in
    let names = c.in_ok-text_list.ensures ∙ ap (λ ks. list (items_of (map (λ t. text t) ks))) named in
    let paths = c.in_ok-lists.ensures ∙ ap (λ es. members_from (take limits.paths (entries_of es))) c.deref-7.ensures.value in
    let present = c.deref-9.ensures.value ∙ (c.in_ok-present.ensures ∙ ap (λ ts. filter (λ t. not (is_among t ws)) ts) c.deref-8.ensures.value) in
    let strings = c.in_ok-list-3.ensures ∙ ap (λ ts. list (items_of (trees_of ts))) c.deref-10.ensures.value in
    let one = c.in_ok-members.ensures ∙ λ j. with_member (codes "any") (any j) ((c.members.view_is ∙ c.no_members-members.ensures) j) in
    let two = c.in_ok-members-2.ensures ∙ λ j. with_lists_member (codes "fixed") (fixed j) (one j) in
    let three = c.in_ok-members-3.ensures ∙ λ j. with_member (codes "integers") (integers j) ((c.members-3.view_is ∙ two) j) in
    let four = c.in_ok-members-4.ensures ∙ λ j. with_member (codes "names") (names j) ((c.members-4.view_is ∙ three) j) in
    let five = c.in_ok-members-5.ensures ∙ λ j. with_values_member (codes "numbers") (trees_of (c.deref-6.ensures.value j)) (four j) in
    let six = c.in_ok-members-6.ensures ∙ λ j. with_lists_member (codes "paths") (paths j) (five j) in
    let seven = c.in_ok-members-7.ensures ∙ λ j. with_texts_member (codes "present") (present j) (six j) in
    let eight = c.in_ok-members-8.ensures ∙ λ j. with_member (codes "strings") (strings j) ((c.members-7.view_is ∙ seven) j) in
    ap (λ ms. object ms) eight ∙ in_place G.any (members_from (s.fixed ++ map without_entry ws)) G.integers (chosen_names limits.names (s.names ++ usual_names)) G.numbers (members_from (take limits.paths s.lists))
    (filter (λ t. not (is_among t ws)) s.present) G.strings
