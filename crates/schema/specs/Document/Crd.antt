-- What is read of a CustomResourceDefinition in JSON (apiextensions.k8s.io/v1).
use Rattle.std.specs.Prelude.{◌≡◌, ◌≢◌, ℕ, List, [], Some, codes}
use Rattle.jtree.specs.Data.{Data, Members, text, list, object, Items}
use Rattle.jtree.specs.Path.{item_at, under, under2, under3}

-- a version has this name
abbrev pub IsNamed : Data → List ℕ → Type 0
IsNamed version s = under version (codes "name") ≡ Some (text s)

-- the document says that it is a CustomResourceDefinition
abbrev pub HasHeader : Data → Type 0
HasHeader d = (under d (codes "apiVersion") ≡ Some (text (codes "apiextensions.k8s.io/v1")))
    × (under d (codes "kind") ≡ Some (text (codes "CustomResourceDefinition")))

-- a CustomResourceDefinition but for what its versions are
pub record IsHead (d : Data) (group kind : List ℕ) (versions : Items) : Type 0 where
  pub header : HasHeader d
  pub group_is : under2 d (codes "spec") (codes "group") ≡ Some (text group)
  pub group_given : group ≢ []
  pub kind_is : under3 d (codes "spec") (codes "names") (codes "kind") ≡ Some (text kind)
  pub kind_given : kind ≢ []
  pub versions_are : under2 d (codes "spec") (codes "versions") ≡ Some (list versions)

-- each version is an object with a string `name`, and no name occurs twice
pub record AreVersions (versions : Items) : Type 0 where
  pub named : (i : ℕ) (v : Data) → item_at i versions ≡ Some v → (s : List ℕ) × IsNamed v s
  pub distinct : (i j : ℕ) (v w : Data) (s : List ℕ) → item_at i versions ≡ Some v → item_at j versions ≡ Some w → IsNamed v s → IsNamed w s → i ≡ j

-- the document is a CustomResourceDefinition with this group, this kind and these versions
pub record IsCrd (d : Data) (group kind : List ℕ) (versions : Items) : Type 0 where
  pub head : IsHead d group kind versions
  pub versions_are : AreVersions versions

-- v is the version of this name
abbrev pub IsVersion : Items → List ℕ → Data → Type 0
IsVersion versions s v = (i : ℕ) × (item_at i versions ≡ Some v) × IsNamed v s

-- a schema is a JSON object; its members are its keywords, whatever their names (JSONSchemaProps)
abbrev pub IsObject : Data → Type 0
IsObject v = (ms : Members) × (v ≡ object ms)

-- s is the schema of a version
abbrev pub IsSchemaOf : Data → Data → Type 0
IsSchemaOf v s = (under2 v (codes "schema") (codes "openAPIV3Schema") ≡ Some s) × IsObject s

-- the document's group, kind and schema of the version
pub record IsRead (d : Data) (version group kind : List ℕ) (schema : Data) : Type 0 where
  pub versions : Items
  pub crd : IsCrd d group kind versions
  pub selected : Data
  pub is : IsVersion versions version selected
  pub schema_is : IsSchemaOf selected schema

-- The document is no CustomResourceDefinition, or the version that is asked for has no object as its schema.
pub data IsNoCrd : Data → List ℕ → Type 0 where
  no_crd : (d : Data) (version : List ℕ) → ((group kind : List ℕ) (versions : Items) → IsCrd d group kind versions → ⊥) → IsNoCrd d version
  no_schema : (d : Data) (version group kind : List ℕ) (versions : Items) (v : Data) → IsCrd d group kind versions
      → IsVersion versions version v → ((s : Data) → IsSchemaOf v s → ⊥) → IsNoCrd d version

-- the document is a CustomResourceDefinition, and none of its versions has the name
pub record LacksVersion (d : Data) (version : List ℕ) : Type 0 where
  pub group : List ℕ
  pub kind : List ℕ
  pub versions : Items
  pub crd : IsCrd d group kind versions
  pub none : (v : Data) → IsVersion versions version v → ⊥
