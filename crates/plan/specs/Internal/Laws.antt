-- What the crates below say of stored values and of the nodes of a schema.
use Rattle.std.specs.Prelude.{◌≡◌, ◌↔◌, Some}
use Rattle.jtree.specs.Data.{Data}
use Rattle.schema.specs.Document.Places.{Place}
use Rattle.schema.specs.Document.Raw.{Raw}
use Rattle.schema.specs.Nodes.Node.{Node}
use Rattle.schema.specs.Nodes.ByPlace.{node_at}
use Rattle.schema.specs.Nodes.Shape.{IsRootOf}
use Rattle.schema.specs.Nodes.Items.{HasSoundItems}
use Rattle.schema.specs.Nodes.Junctors.{HasSoundJunctors}
use Rattle.stored.specs.Objects.Becomes.{IsStored}
use Rattle.stored.specs.Objects.StoredByParts.{StoredByParts}

abbrev pub StoredLaw : Type 0
StoredLaw = (N : Node) (v : Data) → IsStored N v ↔ StoredByParts N v

abbrev pub ItemsLaw : Type 0
ItemsLaw = (raw : Raw) (root : Node) → IsRootOf root raw → (p : Place) (M : Node) → node_at root p ≡ Some M → HasSoundItems M

abbrev pub JunctorsLaw : Type 0
JunctorsLaw = (raw : Raw) (root : Node) → IsRootOf root raw → (p : Place) (M : Node) → node_at root p ≡ Some M → HasSoundJunctors M

abbrev pub SchemaLaws : Type 0
SchemaLaws = ItemsLaw × JunctorsLaw
