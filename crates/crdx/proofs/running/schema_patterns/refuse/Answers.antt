use Rattle.std.proofs.Common.{◌≡◌, ◌++◌, ◌∷◌, ◌∙◌, [], rules, refl, ap, sym, subst, map, string_bytes}
use Rattle.std.proofs.lemmas.List.{map-append}
use Rattle.judge.specs.Patterns.{reported}
use Rattle.crdx.specs.Internal.PatternsFound.{refused_of}
use Rattle.crdx.specs.Program.RefusedPatterns.{Refused, AreRefusedOf}
use Rattle.crdx.specs.declared.running.schema_patterns.RefusedPattern.{RefusedPattern}
use Rattle.crdx.proofs.PatternLemmas.{refused_more}
use Rattle.crdx.proofs.running.schema_patterns.refuse.Goals as goal

pub returns : goal.returns
returns c = λ ps are.
    let items = c.args.compiled.now.refused.items in
    let p = reported c.args.pattern.now in
    let made : RefusedPattern = record { pointer = c.in_ok-clone.field-0; text = c.in_ok-from_str.field-0; fault = c.args.fault } in
    let refused : Refused = record { pattern = p; fault = c.args.fault } in
    let pointer : string_bytes made.pointer ≡ p.pointer = search rules in
    let text : string_bytes made.text ≡ p.text = search rules in
    let same : refused_of made ≡ refused = rw (pointer, text) refl in
    let more : map refused_of c.push.new.self.items ≡ map refused_of items ++ refused ∷ [] =
    ap (λ rs. map refused_of rs) c.in_ok-push.ensures.items ∙ (map-append refused_of items (made ∷ []) ∙ ap (λ r. map refused_of items ++ r ∷ []) same) in
    subst (AreRefusedOf (ps ++ p ∷ [])) (sym more) (refused_more ps (map refused_of items) p c.args.fault are c.requires)
