use Rattle.std.proofs.Common.{◌≡◌, ◌++◌, ◌∷◌, [], Some, true, refl, sym, ◌∙◌, arith}
use Rattle.std.specs.Prelude.{nat_lt}
use Rattle.std.proofs.lemmas.Bool.Decides.{nat_tests}
use Rattle.jtree.specs.Path.{name}
use Rattle.jtree.specs.View.{data_of}
use Rattle.schema.specs.Document.Limits.{limited_by, most, size}
use Rattle.schema.specs.Document.Places.{place_path}
use Rattle.schema.specs.Internal.PlaceView.{place_of}
use Rattle.schema.proofs.listing.check_keyword.Goals as goal

pub returns-clause-err : goal.returns-clause-err
returns-clause-err c = λ n events.
    let l = c.in-Some.limited in
    let k = c.args.keyword.now in
    let limited : limited_by k ≡ Some l = sym c.limited_by.ensures ∙ c.in-Some.is in
    let past : nat_lt (most c.args.limits l) (size (data_of c.args.tree.now)) ≡ true = grind (arith, nat_tests) in
    (record { path = place_path (place_of c.args.place.now) ++ (name k ∷ []); limited = l; found = size (data_of c.args.tree.now) }, c.in_ok-keyword_pointer.ensures, (refl, c.size-found.ensures), rw (limited, past) refl)
