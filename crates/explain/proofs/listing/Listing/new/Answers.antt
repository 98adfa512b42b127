use Rattle.std.proofs.Common.{◌≡◌, [], ◌++◌, ◌∙◌, ap, sym, subst, map, string_bytes}
use Rattle.schema.specs.Nodes.View.{node_of}
use Rattle.explain.specs.Fields.Declared.{AreFields}
use Rattle.explain.specs.Fields.View.{field_of}
use Rattle.explain.specs.Internal.ListedByLevel.{below, listed_at}
use Rattle.explain.proofs.ListedLemmas.{are_fields}
use Rattle.explain.proofs.listing.Listing.new.Goals as goal

pub returns : goal.returns
returns c =
    let N = node_of c.root-root.result.now in
    let es = below N in
    let listed : map field_of c.list_below.new.walk.fields.items ≡ map (listed_at []) es =
    ap (λ p. p.listed) c.in_ok-list_below.ensures
    ∙ (ap (λ xs. map field_of xs ++ map (listed_at (string_bytes c.new.result)) es) c.new-2.ensures.items ∙ ap (λ at. map (listed_at at) es) c.new.ensures.bytes)
    in
    subst (λ root. AreFields root (map field_of c.list_below.new.walk.fields.items)) c.root-root.ensures.node
    (subst (AreFields N) (sym listed) (are_fields N c.reveal_invariant.ensures))
