use Rattle.std.proofs.Common.{◌≡◌, ℤ, ◌+◌, ◌++◌, ◌∷◌, [], List, drop, map, filter_map, FitsSigned, ◌∙◌, refl, sym, rules}
use Rattle.std.specs.Int.{w64}
use Rattle.std.proofs.lemmas.Int.{to_z-of_z}
use Rattle.std.proofs.lemmas.List.{append_assoc, at_drop_more}
use Rattle.std.proofs.lemmas.List.Elements.{All-push}
use Rattle.jtree.specs.Data.{Data}
use Rattle.jtree.specs.View.{data_of}
use Rattle.jtree.specs.declared.value.Tree.{Tree}
use Rattle.jtree.specs.declared.value.Tree.TheVariants as tree
use Rattle.plan.specs.Pools.Document.{integer_of}
use Rattle.plan.proofs.pools.integers_of.Goals as goal
use Rattle.plan.proofs.pools.integers_of.Goals.{in-Int+in_ok-push, in_default}

-- entries that are not integers are skipped
passed : (t : Tree) (ds : List Data) → ((z : ℤ) → t ≡ tree.Int z → ⊥) → filter_map integer_of (data_of t ∷ ds) ≡ filter_map integer_of ds
passed tree.Null ds h = refl
passed (tree.Bool b) ds h = refl
passed (tree.Int z) ds h = absurd (h z refl)
passed (tree.Number s) ds h = refl
passed (tree.Text s) ds h = refl
passed (tree.List ts) ds h = refl
passed (tree.Object ms) ds h = refl

pub loop-entry-preserved : goal.loop-entry-preserved
loop-entry-preserved c =
    let xs = c.args.entries.now in
    let i = c.loop-entry.entry-index in
    let entry = c.entry-item.result in
    let before = c.loop-entry.integers.items in
    let rest = map data_of (drop (i + 1) xs) in
    let inv = c.loop-entry.invariant in
    let step : before ++ filter_map integer_of (map data_of (drop i xs)) ≡ before ++ filter_map integer_of (data_of entry ∷ rest) = rw c.entry-item.is (at_drop_more (λ ts. before ++ filter_map integer_of (map data_of ts)) xs i entry c.loop-entry-test.true) in
    elim c.match-entry.branch [
      | in-Int+in_ok-push w ↦
          let n = w.in-Int.n in
          let fits : FitsSigned w64 n = search rules in
          let found = rw w.in-Int.is at step in
          rw (w.integers-is, w.in_ok-push.ensures.items, to_z-of_z w64 n fits)
          (append_assoc before (n ∷ []) (filter_map integer_of rest) ∙ sym found ∙ inv.0, All-push (λ z. FitsSigned w64 z) before n inv.1 fits)
      | in_default w ↦ rw w.integers-is ((rw (passed entry rest w.in_default.not-Int) at (sym step)) ∙ inv.0, inv.1)
    ]
