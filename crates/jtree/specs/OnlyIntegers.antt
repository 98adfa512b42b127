-- A tree all of whose numbers are integers of 64 bits: the trees of the default reading.
use Rattle.jtree.specs.Data.{Data, number, list, object, Items, no_items, item, Members, no_members, member}

abbrev mutual
  pub HasOnlyIntegers : Data → Type 0
  HasOnlyIntegers (number s) = ⊥
  HasOnlyIntegers (list ds) = ItemsHaveOnlyIntegers ds
  HasOnlyIntegers (object ms) = MembersHaveOnlyIntegers ms
  HasOnlyIntegers _ = Unit {0}

  pub ItemsHaveOnlyIntegers : Items → Type 0
  ItemsHaveOnlyIntegers no_items = Unit {0}
  ItemsHaveOnlyIntegers (item d ds) = HasOnlyIntegers d × ItemsHaveOnlyIntegers ds

  pub MembersHaveOnlyIntegers : Members → Type 0
  MembersHaveOnlyIntegers no_members = Unit {0}
  MembersHaveOnlyIntegers (member k d ms) = HasOnlyIntegers d × MembersHaveOnlyIntegers ms
