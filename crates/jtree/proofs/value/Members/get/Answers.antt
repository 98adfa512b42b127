use Rattle.std.proofs.Common.{◌≡◌, ℕ, List, ◌+◌, ◌<◌, true, false, length, drop, get_or, ap, sym, ◌∙◌, arith}
use Rattle.std.specs.Str.{bytes_eq}
use Rattle.std.proofs.lemmas.List.{at_drop_more, at_drop_all}
use Rattle.jtree.specs.Data.{member}
use Rattle.jtree.specs.Path.{member_at}
use Rattle.jtree.specs.View.{data_of, members_of}
use Rattle.jtree.specs.declared.value.Member.{Member}
use Rattle.jtree.proofs.value.Members.get.Goals as goal

-- the members from a place on are the one there and those after it
next_member : (ms : List Member) (i : ℕ) (m : Member) → i < length ms → m ≡ get_or ms i m → members_of (drop i ms) ≡ member m.name (data_of m.tree) (members_of (drop (i + 1) ms))
next_member ms i m within is = at_drop_more members_of ms i m within ∙ ap (λ z. member z.name (data_of z.tree) (members_of (drop (i + 1) ms))) (sym is)

pub returns-then-eq : goal.returns-then-eq
returns-then-eq c =
    let i = c.loop-member.member-index in
    let ms = c.deref-member-items.result.now in
    let m = c.member-item.result in
    let k = c.args.name.now in
    let split = next_member ms i m (omega arith) c.member-item.is in
    let same : bytes_eq k m.name ≡ true = cc in
    let here = ap (member_at k) split in
    let whole : members_of ms ≡ c.args.self.now = ap members_of c.deref-member-items.ensures.value ∙ c.self.view_is in
    sym (rw same at here) ∙ c.loop-member.invariant ∙ ap (member_at k) whole

pub loop-member-preserved : goal.loop-member-preserved
loop-member-preserved c =
    let i = c.loop-member.member-index in
    let ms = c.deref-member-items.result.now in
    let m = c.member-item.result in
    let k = c.args.name.now in
    let split = next_member ms i m (omega arith) c.member-item.is in
    let other : bytes_eq k m.name ≡ false = cc in
    let here = rw other at (ap (member_at k) split) in
    sym here ∙ c.loop-member.invariant

pub returns : goal.returns
returns c =
    let none = at_drop_all (λ xs. member_at c.args.name.now (members_of xs)) c.deref-member-items.result.now c.loop-member.member-index c.loop-member-test.false in
    let whole : members_of c.deref-member-items.result.now ≡ c.args.self.now = ap members_of c.deref-member-items.ensures.value ∙ c.self.view_is in
    sym none ∙ c.loop-member.invariant ∙ ap (member_at c.args.name.now) whole
