-- For proofs: a value and all its parts fail no test of the schemas that are asked of them.
use Rattle.std.specs.Prelude.{◌≡◌, List, [], ◌∷◌, false}
use Rattle.jtree.specs.Data.{Data, list, object, Items, no_items, item, Members, no_members, member}
use Rattle.judge.specs.Keywords.{Texts, all_tests}
use Rattle.judge.specs.Asked.{below, member_schema, item_schema}
use Rattle.judge.specs.Faults.{some_fails}
use Rattle.judge.specs.declared.test.Test.{Test}

-- none of some tests is failed
abbrev pub Passes : Texts → List Data → List Test → Data → Type 0
Passes m ss [] v = Unit {0}
Passes m ss (t ∷ ts) v = (some_fails m ss v t ≡ false) × Passes m ss ts v

abbrev mutual
  pub ArePartsClean : Texts → Data → List Data → Type 0
  ArePartsClean m (object ms) ss = AreMembersClean m ms ss
  ArePartsClean m (list ds) ss = AreItemsClean m ds ss
  ArePartsClean m _ ss = Unit {0}

  pub AreMembersClean : Texts → Members → List Data → Type 0
  AreMembersClean m no_members ss = Unit {0}
  AreMembersClean m (member k w ms) ss =
      Passes m (below (member_schema k) w ss) all_tests w × ArePartsClean m w (below (member_schema k) w ss) × AreMembersClean m ms ss

  pub AreItemsClean : Texts → Items → List Data → Type 0
  AreItemsClean m no_items ss = Unit {0}
  AreItemsClean m (item w ds) ss = Passes m (below item_schema w ss) all_tests w × ArePartsClean m w (below item_schema w ss) × AreItemsClean m ds ss

abbrev pub IsClean : Texts → List Data → Data → Type 0
IsClean m ss v = Passes m ss all_tests v × ArePartsClean m v ss
