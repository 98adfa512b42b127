-- The envelope that a sample is printed with: the members `apiVersion`, `kind` and `metadata`, an object of `name` alone
-- (Kubernetes API conventions, "Resources").
use Rattle.std.specs.Prelude.{codes}
use Rattle.jtree.specs.Data.{Data, text, object, Members, no_members, member}
use Rattle.jtree.specs.MemberPlace.{with_member}
use Rattle.crdx.specs.declared.walk.line.Envelope.{Envelope}

-- the members with these put in, the last one first
abbrev pub with_members : Members → Members → Members
with_members no_members ms = ms
with_members (member k d ps) ms = with_member k d (with_members ps ms)

abbrev pub members_of_envelope : Envelope → Members
members_of_envelope e = member (codes "apiVersion") (text e.api_version) (member (codes "kind") (text e.kind) (member (codes "metadata") (object (member (codes "name") (text e.name) no_members)) no_members))

-- an object with the members of the envelope; another tree is as it was
abbrev pub in_envelope : Envelope → Data → Data
in_envelope e (object ms) = object (with_members (members_of_envelope e) ms)
in_envelope e v = v
