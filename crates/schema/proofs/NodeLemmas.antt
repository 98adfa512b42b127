-- What is under a name is less deep than the whole, and branches grow at their end.
use Rattle.std.proofs.Common.{◌≡◌, ◌≤◌, ℕ, suc, List, [], ◌∷◌, ◌++◌, Some, ap, inl, inr, arith}
use Rattle.std.specs.Str.{bytes_eq}
use Rattle.std.proofs.lemmas.Option.{same_Some}
use Rattle.jtree.specs.Data.{Data, object, Members, no_members, member, depth, members_depth}
use Rattle.jtree.specs.Path.{member_at, under}
use Rattle.jtree.specs.Internal.Lookups.{bool_cases}
use Rattle.jtree.specs.View.{data_of, items_of}
use Rattle.jtree.specs.declared.value.Tree.{Tree}
use Rattle.schema.specs.Nodes.View.{validations_of, branches_of}
use Rattle.schema.specs.Nodes.Validations.{AreValidationsOf, AreBranchesOf}
use Rattle.schema.specs.declared.node.Validations.{Validations}
use Rattle.schema.specs.declared.profile.Profile.{Profile}

pub member_decreases : (k : List ℕ) (ms : Members) (d : Data) → member_at k ms ≡ Some d → depth d ≤ members_depth ms
member_decreases k no_members d at = cc
member_decreases k (member l e ms) d at = elim (bool_cases (bytes_eq k l)) [
  | inl t ↦ let same : e ≡ d = same_Some e d (rw t at at) in let h = ap depth same in omega arith
  | inr f ↦ let h = member_decreases k ms d (rw f at at) in omega arith
]

pub under_decreases : (d : Data) (k : List ℕ) (e : Data) → under d k ≡ Some e → suc (depth e) ≤ depth d
under_decreases (object ms) k e at = let h = member_decreases k ms e at in omega arith
under_decreases _ k e at = cc

pub push_branches : (profile : Profile) (cs : List Validations) (c : Validations) (ts : List Tree) (t : Tree) → AreBranchesOf profile (branches_of cs) (items_of ts)
    → AreValidationsOf profile (validations_of c) (data_of t) → AreBranchesOf profile (branches_of (cs ++ c ∷ [])) (items_of (ts ++ t ∷ []))
push_branches profile [] c [] t h new = (new, tt)
push_branches profile [] c (u ∷ ts) t h new = absurd h
push_branches profile (b ∷ cs) c [] t h new = absurd h
push_branches profile (b ∷ cs) c (u ∷ ts) t h new = (h.0, push_branches profile cs c ts t h.1 new)
