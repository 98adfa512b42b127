use Rattle.std.proofs.Common.{◌≡◌, arith}
use Rattle.jtree.specs.declared.value.Tree.{Tree}
use Rattle.schema.specs.Nodes.View.{node_of}
use Rattle.plan.specs.Internal.Values.{trees_of, at_places, AreStored, of_kind, places_of, by_kind, AreKinds}
use Rattle.plan.proofs.KindLemmas.{stored_alike}
use Rattle.plan.proofs.LeafLemmas.{ok_so}
use Rattle.plan.proofs.leaf.places_in.Goals as goal

pub returns-in-Scalars-Some : goal.returns-in-Scalars-Some
returns-in-Scalars-Some c =
    let N = node_of c.args.node.now in
    let ss = c.args.values.now.scalars.items in
    let ns = c.args.values.now.numbers.items in
    let kinds = c.args.values.now.kinds in
    let kind = c.in-Scalars-Some.kind in
    let ts = by_kind ss ns kind in
    let listed : c.in-Scalars-Some.listed ≡ kind = c.is_same.ensures c.if-is_same.true in
    rw (c.in-Scalars-Some.is-0, listed)
    (ok_so c.from_slice.result (λ places. places.items ≡ c.places.result.now) (λ places. AreKinds ss ns kinds → (past : Tree) → AreStored c.args.limit N (trees_of ts) (at_places past ts places.items)) c.from_slice.ensures.items
    (λ places same are past. rw (same, c.places.ensures) (stored_alike c.args.limit (of_kind kind) N (trees_of ts) (at_places past ts (places_of kinds kind)) (omega (arith, c.if-limit-gt0.true)) c.in-Scalars-Some.ensures.alike c.in-Scalars-Some.ensures.one (are kind past))))
