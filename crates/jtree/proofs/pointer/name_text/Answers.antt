use Rattle.std.proofs.Common.{◌∷◌, ◌++◌, flat_map, sym, ap, ◌∙◌, append_assoc}
use Rattle.std.proofs.lemmas.Grind.{flat_map-append}
use Rattle.std.specs.Char.{encode_utf8}
use Rattle.std.specs.Str.Iter.{chars_rest}
use Rattle.jtree.specs.Pointer.{escaped}
use Rattle.jtree.proofs.pointer.name_text.Goals as goal

pub loop-letter-preserved : goal.loop-letter-preserved
loop-letter-preserved c =
    let l = c.loop-letter in
    let done = l.invariant.done in
    let one = encode_utf8 c.in-Some.letter in
    record {
      done = done ++ one;
      name = l.invariant.name ∙ ap (λ xs. done ++ xs) c.in-Some.ensures.steps.0 ∙ sym (append_assoc done one (chars_rest c.next.new.self));
      token = c.in_ok-push_letter.ensures ∙ ap (λ xs. xs ++ flat_map escaped one) l.invariant.token ∙ ap (λ xs. 47 ∷ xs) (sym (flat_map-append escaped done one));
    }
