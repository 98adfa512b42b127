use Rattle.std.proofs.Common.{[], ◌∙◌, ap, sym, map}
use Rattle.std.specs.Prelude.{option_map, unwrap_or}
use Rattle.std.proofs.lemmas.Result.{IfOk-weaker}
use Rattle.clap.specs.Matches.{found_of}
use Rattle.clap.proofs.WalkLemmas.{raw_values-rows}
use Rattle.crdx.proofs.arguments.reading.values_of.Goals as goal

pub returns-in-Some : goal.returns-in-Some
returns-in-Some c =
    let all = sym (c.get_strs.ensures ∙ raw_values-rows (found_of c.args.matches.now) c.args.name.now) ∙ ap (option_map (λ s. map (λ v. v.now) s.now)) c.in-Some.is in
    IfOk-weaker c.from_slice.result _ _ (λ v is. ap (map (λ s. s.now)) is ∙ sym (ap (λ o. unwrap_or o []) all)) c.from_slice.ensures.items

pub returns-in-None : goal.returns-in-None
returns-in-None c =
    let none = sym (c.get_strs.ensures ∙ raw_values-rows (found_of c.args.matches.now) c.args.name.now) ∙ ap (option_map (λ s. map (λ v. v.now) s.now)) c.in-None.is in
    ap (map (λ s. s.now)) c.new.ensures.items ∙ sym (ap (λ o. unwrap_or o []) none)
