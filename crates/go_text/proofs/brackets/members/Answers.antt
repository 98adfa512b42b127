use Rattle.std.proofs.Common.{◌≡◌, ◌≤◌, length, ◌++◌, ◌∷◌, [], ◌∙◌, sym, ap, Some, None, option_map, codes, rules, arith}
use Rattle.go_text.specs.Brackets as spec
use Rattle.go_text.specs.Internal.View.{text_of, member_of}
use Rattle.go_text.proofs.MemberLemmas.{ahead_more, ahead_closed, ahead_refused, ahead_end, none_behind}
use Rattle.go_text.proofs.brackets.members.Goals as goal

pub returns-then-closes-clause-value : goal.returns-then-closes-clause-value
returns-then-closes-clause-value c =
    let here : c.loop-c.rest.now ≡ c.in-Some.c ∷ c.in-Some.after.now = search rules in
    let wrote : text_of c.write.new.out ≡ text_of c.loop-c.out ++ codes "]" = search rules in
    rw wrote (ahead_closed _ (text_of c.loop-c.out) c.loop-c.first c.in-Some.c c.in-Some.after.now (search rules) (rw here at c.loop-c.invariant.ahead))

pub returns-in_default-member_at-clause-value : goal.returns-in_default-member_at-clause-value
returns-in_default-member_at-clause-value c =
    let here : c.loop-c.rest.now ≡ c.in-Some.c ∷ c.in-Some.after.now = search rules in
    let refused : spec.member c.in-Some.c c.in-Some.after.now ≡ None = sym c.member_at.ensures.value ∙ ap (option_map member_of) c.in_default-member_at.is in
    none_behind _ _ (ahead_refused _ (text_of c.loop-c.out) c.loop-c.first c.in-Some.c c.in-Some.after.now (search rules) refused (rw here at c.loop-c.invariant.ahead))

pub loop-c-preserved : goal.loop-c-preserved
loop-c-preserved c =
    let here : c.loop-c.rest.now ≡ c.in-Some.c ∷ c.in-Some.after.now = search rules in
    let m = c.in-Some-member_at.member in
    let read : spec.member c.in-Some.c c.in-Some.after.now ≡ Some (member_of m) = sym c.member_at.ensures.value ∙ ap (option_map member_of) c.in-Some-member_at.is in
    let less : length m.rest.now ≤ length c.in-Some.after.now = search rules in
    let wrote : text_of c.write_member.new.out ≡ text_of c.loop-c.out ++ (member_of m).0 = search rules in
    record {
      ahead = rw wrote (ahead_more _ (text_of c.loop-c.out) c.loop-c.first c.in-Some.c c.in-Some.after.now _ _ (search rules) read (search rules) (rw here at c.loop-c.invariant.ahead));
      shorter = omega (arith, less, ap length here, c.loop-c.invariant.shorter);
    }

pub returns-clause-value : goal.returns-clause-value
returns-clause-value c =
    let here : c.loop-c.rest.now ≡ [] = search rules in
    none_behind _ _ (ahead_end _ (text_of c.loop-c.out) c.loop-c.first (rw here at c.loop-c.invariant.ahead))
