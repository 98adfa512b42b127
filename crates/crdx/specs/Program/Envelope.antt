-- The envelope of a resource: the members `apiVersion`, `kind` and `metadata` of an object (Kubernetes API conventions,
-- "Resources"). What is not of the envelope is the body; a tree that is no object has no envelope.
use Rattle.std.specs.Prelude.{◌≡◌, ℕ, List, Bool, not, if◌then◌else◌, Option, None, Some}
use Rattle.jtree.specs.Data.{Data, object, Members, no_members, member, AreMembers}
use Rattle.jtree.specs.Path.{member_at}
use Rattle.jtree.specs.View.{data_of}
use Rattle.jtree.specs.declared.value.Member.{Member}
use Rattle.schema.specs.Document.Places.{is_envelope_name}

-- the members whose names pass a test
abbrev pub members_where : (List ℕ → Bool) → Members → Members
members_where test no_members = no_members
members_where test (member k d ms) = if test k then member k d (members_where test ms) else members_where test ms

abbrev pub body_of : Data → Data
body_of (object ms) = object (members_where (λ k. not (is_envelope_name k)) ms)
body_of v = v

abbrev pub envelope_in : Data → Members
envelope_in (object ms) = members_where is_envelope_name ms
envelope_in v = no_members

abbrev pub first_of : Option Data → Option Data → Option Data
first_of None v = v
first_of (Some d) v = Some d

-- an object joined with an envelope: under each name is what the envelope has there, or else what the object has; another
-- tree is as it was. So the body of an object, joined with its envelope, is the object.
abbrev pub IsJoined : Data → Members → Data → Type 0
IsJoined (object ms) ps w = (ns : Members) × (w ≡ object ns) × AreMembers ns × ((k : List ℕ) → member_at k ns ≡ first_of (member_at k ps) (member_at k ms))
IsJoined v ps w = w ≡ v

-- a member that was taken, in front of others
abbrev pub onto : Option Member → Members → Members
onto None ms = ms
onto (Some m) ms = member m.name (data_of m.tree) ms
