-- What junctors ask (OpenAPI 3.0, `allOf`, `anyOf`, `oneOf` and `not`): those of an object which members are there, by
-- `required` in their branches, and those of a scalar something of the value. That they ask nothing else, and that they name
-- declared fields alone, and few, is this project's profile.
use Rattle.std.specs.Prelude.{◌≡◌, ◌≢◌, ◌≤◌, ℕ, List, [], ◌++◌, length, true, All, AllPairs, Contains, is_some}
pub use Rattle.schema.specs.Rules.Junctors.{most_named}
use Rattle.schema.specs.Nodes.Node.{Node, node, scalar, object, Validations, validations, Branches, no_branches, branch, Fields}
use Rattle.schema.specs.Nodes.Validations.{presence}
use Rattle.schema.specs.Nodes.ByPlace.{field_at}

-- the names that are asked for, in branches of any depth, as written
abbrev mutual
  pub names_in : Validations → List (List ℕ)
  names_in (validations t all any one negated) = t.required ++ (names_of all ++ (names_of any ++ (names_of one ++ names_of negated)))

  pub names_of : Branches → List (List ℕ)
  names_of no_branches = []
  names_of (branch c cs) = names_in c ++ names_of cs

-- nothing else is asked, in branches of any depth
abbrev mutual
  pub AsksPresence : Validations → Type 0
  AsksPresence (validations t all any one negated) = (t ≡ presence t.required) × AskPresence all × AskPresence any × AskPresence one × AskPresence negated

  pub AskPresence : Branches → Type 0
  AskPresence no_branches = Unit {0}
  AskPresence (branch c cs) = AsksPresence c × AskPresence cs

-- the junctors of an object with these fields name no other field, and at most four, and ask nothing else
pub record AreSoundJunctors (fs : Fields) (cs : Validations) : Type 0 where
  pub declared : (k : List ℕ) → Contains (names_in cs) k → is_some (field_at k fs) ≡ true
  pub few : (ks : List (List ℕ)) → AllPairs (λ k l. k ≢ l) ks → All (λ k. Contains (names_in cs) k) ks → length ks ≤ most_named
  pub alone : AsksPresence cs

-- so it is with the junctors of the node, where it is an object; where it is a scalar they name nothing
abbrev pub HasSoundJunctors : Node → Type 0
HasSoundJunctors (node nullable description (object fs preserves type bounds cs)) = AreSoundJunctors fs cs
HasSoundJunctors (node nullable description (scalar kind cs)) = names_in cs ≡ []
HasSoundJunctors _ = Unit {0}
