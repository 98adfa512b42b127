use Rattle.std.proofs.Common.{◌≡◌, ◌^◌, ◌-◌, ◌≤◌, ℕ, List, ◌∷◌, ◌++◌, [], length, take, drop, Bool, true, arith, ap, ap₂, sym, subst, ◌∙◌, append_assoc, length-append}
use Rattle.std.proofs.Math.Nat.{min-le_left}
use Rattle.std.proofs.Math.Seq.{take-append_seam, drop-append_seam}
use Rattle.jtree.specs.Last.{last_depth, with_last}
use Rattle.jtree.specs.Overwriting.{Overwrites}
use Rattle.jtree.specs.Text.{compact}
use Rattle.jtree.specs.View.{data_of}
use Rattle.crdx.specs.Output.Line.{newline}
use Rattle.crdx.proofs.WrittenLemmas.{after_node, joined_line, kept, split_line}
use Rattle.crdx.proofs.walk.blocks.Block.change_node.Goals as goal

-- what stands in the text where the part was
overwritten : (done : Bool) (after : ℕ) (front old new rest before now : List ℕ) → Overwrites done after (length old) new before now → done ≡ true → before ≡ front ++ (old ++ rest) → length rest ≡ after
    → now ≡ front ++ (new ++ rest)
overwritten done after front old new rest before now h did is size =
    let whole : before ≡ (front ++ old) ++ rest = is ∙ sym (append_assoc front old rest) in
    let end : length before - after ≡ length (front ++ old) = omega (arith, ap length whole, length-append (front ++ old) rest, size) in
    let start : length before - after - length old ≡ length front = omega (arith, end, length-append front old) in
    let first : take (length before - after - length old) before ≡ front = ap₂ take start is ∙ take-append_seam front (old ++ rest) in
    let last : drop (length before - after) before ≡ rest = ap₂ drop end whole ∙ drop-append_seam (front ++ old) rest in
    rw did at h.text ∙ ap₂ (λ f r. f ++ (new ++ r)) first last

pub returns-then-branch-clause-line : goal.returns-then-branch-clause-line
returns-then-branch-clause-line c = λ yes.
    let v = data_of c.args.sample.now in
    let u = data_of c.args.change.before.now in
    let node = data_of c.args.change.node.now in
    let around = c.parts_have_their_text.ensures.around v in
    let front = around.0 in
    let rest = around.1 in
    let old = c.args.self.now.line.items in
    let split = split_line (with_last v u) u old front rest c.requires.old.0 (around.3 u) in
    let after = after_node old front (compact u) rest (last_depth v) c.args.change.depth _ split (omega (arith, c.args.self.now.line.ok)) around.2 c.requires.depth c.saturating_add-after.ensures in
    let new = overwritten _ _ front (compact u) (compact node) (rest ++ newline ∷ []) old _ c.in_ok-overwrite.ensures.ok c.if-branch.true split after in
    let own : with_last v node ≡ v = ap (with_last v) (sym c.requires.node) ∙ c.last_node_is_replaced.ensures.own v in
    let deep = subst (λ n. n ≤ last_depth v) (sym c.requires.depth) (min-le_left (last_depth v) (2 ^ 64 - 1)) in (
      joined_line v (with_last v node) node _ front rest own (around.3 node) new,
      kept c.args.self.now.front c.deep_front-self.result c.args.change.depth v u c.deep_front-self.ensures deep c.parts_have_their_text.ensures.last c.requires.old.1,
    )
