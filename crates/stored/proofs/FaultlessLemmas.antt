-- A list of all faults is empty exactly where the object is valid.
use Rattle.std.proofs.Common.{◌≡◌, List, [], ◌∷◌, refl, subst, arith}
use Rattle.std.specs.Prelude.{map, All}
use Rattle.jtree.specs.Data.{Data}
use Rattle.jtree.specs.Internal.Rising.{Among, contained}
use Rattle.schema.specs.Nodes.Node.{Node}
use Rattle.stored.specs.Objects.Fault.{HasFault, IsValid}
use Rattle.stored.specs.Objects.AllFaults.{Failure, AreFaults, reported, reported_of}
use Rattle.stored.specs.declared.fault.Fault.{Fault}

none_reported : (faults : List Fault) (fs : List Failure) → faults ≡ [] → map reported faults ≡ map reported_of fs → fs ≡ []
none_reported faults [] none is = refl
none_reported faults (f ∷ fs) none is = let e = rw none at is in cc

pub none_is_valid : (N : Node) (v : Data) (faults : List Fault) → AreFaults N v faults → faults ≡ [] → IsValid N v
none_is_valid N v faults a none path t h =
    elim (subst (λ fs. Among fs (record { path = path; test = t })) (none_reported faults a.0 none a.2) (contained a.0 _ (a.1.all path t h))) [ ]

some_fault : (N : Node) (v : Data) (fs : List Failure) (f : Fault) (faults : List Fault) → map reported (f ∷ faults) ≡ map reported_of fs → All (λ g. HasFault N v g.path g.test) fs
    → IsValid N v → ⊥
some_fault N v [] f faults is each valid = cc
some_fault N v (g ∷ fs) f faults is each valid = valid g.path g.test (each 0 g (omega arith))

pub valid_has_none : (N : Node) (v : Data) (faults : List Fault) → AreFaults N v faults → IsValid N v → faults ≡ []
valid_has_none N v [] a valid = refl
valid_has_none N v (f ∷ faults) a valid = absurd (some_fault N v a.0 f faults a.2 a.1.each valid)
