use Rattle.std.proofs.Common.{◌∷◌, ◌++◌, flat_map, string_bytes, sym, ap, ◌∙◌, append_assoc}
use Rattle.std.proofs.lemmas.Grind.{flat_map-append}
use Rattle.std.specs.Char.{encode_utf8}
use Rattle.std.specs.Str.Iter.{chars_rest}
use Rattle.explain.specs.Paths.FieldPath.{field}
use Rattle.explain.specs.Paths.PathText.{escaped, step_text}
use Rattle.explain.proofs.path_text.push_name.Goals as goal

pub loop-letter-preserved : goal.loop-letter-preserved
loop-letter-preserved c =
    let l = c.loop-letter in
    let old = string_bytes c.args.text.now in
    let done = l.invariant.done in
    let one = encode_utf8 c.in-Some.letter in
    record {
      done = done ++ one;
      name = l.invariant.name ∙ ap (λ xs. done ++ xs) c.in-Some.ensures.steps.0 ∙ sym (append_assoc done one (chars_rest c.next.new.self));
      text = c.in_ok-push_letter.ensures ∙ ap (λ xs. xs ++ flat_map escaped one) l.invariant.text ∙ append_assoc old (step_text (field done)) (flat_map escaped one)
          ∙ ap (λ xs. old ++ (47 ∷ xs)) (sym (flat_map-append escaped done one));
    }
