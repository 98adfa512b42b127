use Rattle.std.proofs.Common.{◌≡◌, ℕ, List, [], ◌∷◌, length, drop, true, refl, sym, subst, ◌∙◌, arith}
use Rattle.std.proofs.lemmas.List.{drop_all}
use Rattle.std.proofs.lemmas.Bool.Decides.{nat_tests}
use Rattle.std.specs.Prelude.{◌==◌}
use Rattle.jtree.specs.Data.{Data, no_members}
use Rattle.jtree.specs.View.{members_of}
use Rattle.jtree.specs.declared.value.Member.{Member}
use Rattle.plan.specs.Samples.Sizes.{CanFill}
use Rattle.plan.specs.Samples.Sites.{slots}
use Rattle.enumerate.specs.Internal.Nodes.{site}
use Rattle.enumerate.specs.Internal.Rows.{ending_at}
use Rattle.enumerate.specs.Internal.Candidates.{used_rows}
use Rattle.enumerate.proofs.walks.Membership.{ends_is, ends_from}
use Rattle.enumerate.proofs.walk.Walk.ends_unused_row.Goals as goal

no_length : (n : ℕ) → (n == 0) ≡ true → n ≡ 0
no_length n e = grind (arith, nat_tests)

no_member : (ms : List Member) → (length ms == 0) ≡ true → members_of ms ≡ no_members
no_member [] e = refl
no_member (m ∷ ms) e = absurd (omega (arith, no_length (length (m ∷ ms)) e))

a_member : (ms : List Member) → members_of ms ≡ no_members → (length ms == 0) ≡ true
a_member [] e = refl
a_member (m ∷ ms) e = cc

no_row : (rs : List Data) → (length rs == 0) ≡ true → rs ≡ []
no_row [] e = refl
no_row (r ∷ rs) e = absurd (omega (arith, no_length (length (r ∷ rs)) e))

pub returns-then-not-is_empty : goal.returns-then-not-is_empty
returns-then-not-is_empty g c =
    let some = sym c.is_empty.ensures ∙ c.if-not-is_empty.true in
    (λ no. cc, λ h. let none = a_member c.args.members.now (ends_is c.args.self.now.plan.now.pools (ending_at c.args.self.now.plan.now c.args.node) c.args.before (used_rows c.args.used.now) (members_of c.args.members.now) h).0 in cc)

pub returns : goal.returns
returns g c =
    let q = c.args.self.now.plan.now in
    let i = c.args.node in
    let P = q.pools in
    let end = ending_at q i in
    let x = c.args.before in
    let all : drop c.args.place (slots P (site q i)) ≡ [] = drop_all c.args.place (slots P (site q i)) (omega arith) in
    let none = no_member c.args.members.now (sym c.is_empty.ensures ∙ c.if-not-is_empty.false) in
    let nobody = no_row (used_rows c.args.used.now) (sym c.is_empty-2.ensures ∙ c.if-not-is_empty-2.false) in (
      λ yes. ends_from P end x (used_rows c.args.used.now) (members_of c.args.members.now) none nobody (subst (λ ss. CanFill P ss end x 0) all ((c.rest.ensures 0).0 (c.has.ensures.0 yes)).1),
      λ h. c.has.ensures.1 ((c.rest.ensures 0).1 (omega arith, subst (λ ss. CanFill P ss end x 0) (sym all) (ends_is P end x (used_rows c.args.used.now) (members_of c.args.members.now) h).2)),
    )
