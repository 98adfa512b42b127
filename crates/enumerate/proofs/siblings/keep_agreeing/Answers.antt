use Rattle.std.proofs.Common.{◌≡◌, ◌∙◌, List, [], ◌∷◌, Bool, Bor, filter, refl, ap, inl, inr, rules}
use Rattle.std.proofs.lemmas.Fn.{filter_same}
use Rattle.jtree.specs.Data.{Data}
use Rattle.jtree.specs.View.{data_of}
use Rattle.jtree.specs.declared.value.Tree.{Tree}
use Rattle.jtree.specs.Internal.Lookups.{bool_cases}
use Rattle.enumerate.specs.Internal.Candidates.{rows_of, has_under}
use Rattle.enumerate.proofs.siblings.keep_agreeing.Goals as goal

-- the trees of the rows that pass are the trees that pass
kept_rows : (p : Data → Bool) (rs : List (Bor Tree)) → rows_of (filter (λ r. p (data_of r.now)) rs) ≡ filter p (rows_of rs)
kept_rows p [] = refl
kept_rows p (r ∷ rs) = elim (bool_cases (p (data_of r.now))) as (λ _. rows_of (filter (λ r. p (data_of r.now)) (r ∷ rs)) ≡ filter p (rows_of (r ∷ rs))) [
  | inl kept ↦ rw kept (ap (λ us. data_of r.now ∷ us) (kept_rows p rs))
  | inr other ↦ rw other (kept_rows p rs)
]

pub returns : goal.returns
returns c =
    let p = has_under c.args.name.now (data_of c.args.value.now) in
    ap rows_of (filter_same _ (λ r. p (data_of r.now)) _ (λ x b f' h. search rules) _ _ c.retain.ensures.filtered) ∙ kept_rows p c.args.rows.now.items
