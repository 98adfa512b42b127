use Rattle.std.proofs.Common.{◌≡◌, ◌↔◌, ◌≤◌, ℕ, List, length, Bool, true, false, not, IsTrue, refl, sym, ◌∙◌, arith, rules}
use Rattle.std.proofs.lemmas.List.Sums.{length-filter, count_by-le-length}
use Rattle.jtree.specs.Data.{Data}
use Rattle.jtree.specs.View.{data_of}
use Rattle.enumerate.specs.Internal.Candidates.{used_rows, has_under, agreeing}
use Rattle.enumerate.proofs.leaves.Lemmas.{tree_found, found_tree}
use Rattle.enumerate.proofs.siblings.is_free.Goals as goal

denied : (b : Bool) (T : Type 0) → (b ≡ true → T) → (T → b ≡ true) → IsTrue (not b) ↔ (T → ⊥)
denied true T there back = (λ no. cc, λ none. absurd (none (there refl)))
denied false T there back = (λ _ t. let yes = back t in cc, λ none. refl)

pub returns-in-Items : goal.returns-in-Items
returns-in-Items c =
    let ts = c.in-Items.items.now in
    let t = c.args.tree.now in
    let is = c.contains.ensures.value in
    rw c.in-Items.is (denied c.contains.result _ (λ e. tree_found ts t (sym is ∙ e)) (λ a. is ∙ found_tree ts t a))

few_agree : (k : List ℕ) (v : Data) (rows : List Data) → length (agreeing k v rows) ≤ length rows
few_agree k v rows = omega (arith, length-filter (has_under k v) rows, count_by-le-length (has_under k v) rows)

pub returns-in-Key : goal.returns-in-Key
returns-in-Key c =
    let key = c.in-Key.key in
    rw c.in-Key.is (λ free. omega (arith, few_agree key.name.now (data_of c.args.tree.now) (used_rows key.rows), c.len.ensures, c.if-len-key.true), λ free. refl)

pub returns-in-Key-2 : goal.returns-in-Key-2
returns-in-Key-2 c = search rules
