use Rattle.std.proofs.Common.{◌≡◌, ◌∙◌, chars, string_bytes, refl, ap}
use Rattle.std.specs.Ordering.{nat_cmp}
use Rattle.std.specs.Cmp.Lexicographic.{slice_cmp}
use Rattle.std.specs.Str.Iter.{chars_rest}
use Rattle.std.proofs.lemmas.Str.{IsUtf8-string_bytes}
use Rattle.std.proofs.lemmas.Iterator.{YieldsList-from_chars}
use Rattle.std.proofs.lemmas.Iterator.Search.{cmp_from_yields_List}
use Rattle.cel_eval.proofs.ordering.text_order.Goals as goal

pub returns : goal.returns
returns c =
    let a = string_bytes c.a.inside.text in
    let b = string_bytes c.b.inside.text in
    let is : c.cmp.result ≡ slice_cmp nat_cmp (chars a) (chars b) =
    cmp_from_yields_List (λ x y. y ≡ x) _ nat_cmp _ c.cmp.ensures.ran
    (YieldsList-from_chars a (IsUtf8-string_bytes c.a.inside.text) (c.chars.ensures.rest ∙ c.deref.ensures))
    (λ it e. YieldsList-from_chars b (IsUtf8-string_bytes c.b.inside.text) (ap chars_rest e ∙ c.chars-2.ensures.rest ∙ c.deref-2.ensures))
    (λ x y. refl) in
    is ∙ ap (λ t. slice_cmp nat_cmp t (chars b)) c.a.view_is ∙ ap (slice_cmp nat_cmp c.args.a.now) c.b.view_is
