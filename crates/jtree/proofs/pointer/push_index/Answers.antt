use Rattle.std.proofs.Common.{◌++◌, ◌∷◌, [], ap, ◌∙◌, append_assoc, string_bytes, arith}
use Rattle.std.specs.Fmt.{decimal}
use Rattle.jtree.proofs.pointer.push_index.Goals as goal

pub returns-clause-ok : goal.returns-clause-ok
returns-clause-ok c =
    let slash = rw (c.unwrap.ensures, c.push.ensures.ascii (omega arith), c.in_ok-reserve.ensures.bytes) at c.push.ensures.bytes in
    let digits = rw (c.unwrap-2.ensures, c.format-digits.ensures.text) at c.push_str.ensures.bytes in
    digits ∙ ap (λ s. s ++ decimal c.args.index) slash ∙ append_assoc (string_bytes c.args.text.now) (47 ∷ []) (decimal c.args.index)
