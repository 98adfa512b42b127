use Rattle.std.proofs.Common.{◌≡◌, ◌<◌, ◌+◌, [], ◌∷◌, ◌++◌, length, take, drop, refl, ap, sym, ◌∙◌, subst, arith}
use Rattle.std.specs.Prelude.{option_map}
use Rattle.std.proofs.lemmas.List.{take_more, take_all}
use Rattle.std.proofs.lemmas.Map.Text.{btree_map_updates_str}
use Rattle.jtree.specs.View.{data_of, items_of}
use Rattle.schema.specs.Document.Crd.{AreVersions}
use Rattle.schema.specs.Internal.Versions.{IsSelected}
use Rattle.schema.proofs.VersionLemmas.{split_at, unnamed, repeated, index_push, selected, some_value, no_value, map_cond, index_same}
use Rattle.schema.proofs.versions.select.Goals as goal

pub returns-in_default-clause-err : goal.returns-in_default-clause-err
returns-in_default-clause-err c =
    let xs = c.deref-item-items.result.now in
    let i = c.loop-item.item-index in
    let t = c.item-item.result in
    let within : i < length xs = omega arith in
    let whole : items_of xs ≡ c.args.versions.now = ap items_of c.deref-item-items.ensures.value ∙ c.versions.view_is in
    let split = ap items_of (split_at xs i t within c.item-item.is) in
    λ all. unnamed (take i xs) (drop (i + 1) xs) t (c.in_default.ensures.none refl) (subst AreVersions (sym whole ∙ split) all)

pub returns-then-is_some-clause-err : goal.returns-then-is_some-clause-err
returns-then-is_some-clause-err c =
    let xs = c.deref-item-items.result.now in
    let i = c.loop-item.item-index in
    let t = c.item-item.result in
    let within : i < length xs = omega arith in
    let whole : items_of xs ≡ c.args.versions.now = ap items_of c.deref-item-items.ensures.value ∙ c.versions.view_is in
    let split = ap items_of (split_at xs i t within c.item-item.is) in
    let old = c.in_ok-insert.ensures.old in
    let value = some_value c.in_ok-insert.field-0 (sym c.if-is_some.ensures) in
    λ all. repeated (take i xs) (drop (i + 1) xs) t c.in-Some.name.now (data_of value.0.now) _ c.loop-item.invariant c.in-Some.ensures.some
    (ap (option_map (λ r. data_of r.now)) (sym old ∙ value.1)) (subst AreVersions (sym whole ∙ split) all)

pub loop-item-preserved : goal.loop-item-preserved
loop-item-preserved c =
    let xs = c.deref-item-items.result.now in
    let i = c.loop-item.item-index in
    let t = c.item-item.result in
    let within : i < length xs = omega arith in
    let more : take (i + 1) xs ≡ take i xs ++ t ∷ [] = take_more xs i t within ∙ ap (λ x. take i xs ++ x ∷ []) (sym c.item-item.is) in
    let s = c.in-Some.name.now in
    let old = c.in_ok-insert.ensures.old in
    let none = no_value c.in_ok-insert.field-0 (sym c.if-is_some.ensures) in
    index_same more
    (index_push (take i xs) t s _ _ c.loop-item.invariant c.in-Some.ensures.some (ap (option_map (λ r. data_of r.now)) (sym old ∙ none))
    (λ r. ap (option_map (λ k. data_of k.now)) (btree_map_updates_str s c.loop-item.by_name c.insert.new.self _ c.in_ok-insert.ensures.updates r) ∙ map_cond (λ k. data_of k.now) _ _ _))

pub returns-clause-selected : goal.returns-clause-selected
returns-clause-selected c =
    let xs = c.deref-item-items.result.now in
    let all : take c.loop-item.item-index xs ≡ xs = take_all c.loop-item.item-index xs (omega arith) in
    let whole : items_of xs ≡ c.args.versions.now = ap items_of c.deref-item-items.ensures.value ∙ c.versions.view_is in
    subst (λ ds. IsSelected ds c.args.version.now (option_map (λ t. data_of t.now) c.copied.result)) (ap items_of all ∙ whole)
    (selected _ _ c.args.version.now _ c.loop-item.invariant (ap (option_map (λ t. data_of t.now)) (sym (c.copied.ensures ∙ c.get.ensures.value))))
