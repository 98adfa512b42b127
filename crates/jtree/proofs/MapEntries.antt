-- The members that the entries of a map are, where one goes in, and where one comes after the others.
use Rattle.std.proofs.Common.{◌≡◌, ℕ, List, [], ◌∷◌, ◌++◌, refl, sym, ap, ◌∙◌, inl, inr}
use Rattle.std.specs.BTreeMap.{insert_entry}
use Rattle.std.proofs.lemmas.Map.Lookups.{exact_bytes}
use Rattle.jtree.specs.Data.{member}
use Rattle.jtree.specs.MemberPlace.{with_member}
use Rattle.jtree.specs.Order.{text_cmp}
use Rattle.jtree.specs.View.{data_of, members_of}
use Rattle.jtree.specs.Internal.Entries.{Entry, members_of_entries}
use Rattle.jtree.specs.Internal.Lookups.{ordering_cases}
use Rattle.jtree.specs.declared.value.Tree.{Tree}
use Rattle.jtree.specs.declared.value.Member.{Member}
use Rattle.jtree.proofs.Reading.{and_member, members_of-and}

pub entry_inserted : (es : List Entry) (k : List ℕ) (t : Tree) → members_of_entries (insert_entry text_cmp es k t) ≡ with_member k (data_of t) (members_of_entries es)
entry_inserted [] k t = refl
entry_inserted (e ∷ es) k t = elim (ordering_cases (text_cmp k e.0)) [
  | inl before ↦ rw before refl
  | inr (inl same) ↦ rw same (ap (λ l. member l (data_of t) (members_of_entries es)) (sym (exact_bytes k e.0 same)))
  | inr (inr past) ↦ rw past (ap (member e.0 (data_of e.1)) (entry_inserted es k t))
]

added : (done : List Entry) (e : Entry) → members_of_entries (done ++ e ∷ []) ≡ and_member (members_of_entries done) e.0 (data_of e.1)
added [] e = refl
added (d ∷ done) e = ap (member d.0 (data_of d.1)) (added done e)

pub one_more_entry : (done : List Entry) (e : Entry) (ms : List Member) (m : Member) → members_of_entries done ≡ members_of ms → m.name ≡ e.0 → m.tree ≡ e.1
    → members_of_entries (done ++ e ∷ []) ≡ members_of (ms ++ m ∷ [])
one_more_entry done e ms m same name tree = added done e ∙ (ap (λ ns. and_member ns e.0 (data_of e.1)) same ∙ rw (← name, ← tree) (members_of-and ms m))
