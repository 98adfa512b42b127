use Rattle.std.proofs.Common.{◌≡◌, ◌-◌, List, length, Option, Some, None, option_map, Bor, ap, ◌∙◌}
use Rattle.std.specs.List.{slice_get}
use Rattle.std.specs.Option.{option_copied}
use Rattle.jtree.specs.View.{data_of, items_of, members_of}
use Rattle.jtree.specs.declared.value.Tree.{Tree}
use Rattle.jtree.specs.Internal.LastText.{last_item, last_member}
use Rattle.jtree.proofs.LastText.{last_item_of, last_member_of}
use Rattle.jtree.proofs.last.last_part.Goals as goal

item_read : (r : Option (Bor Tree)) (ts : List Tree) → option_copied r ≡ slice_get ts (length ts - 1) → option_map (λ t. data_of t.now) r ≡ last_item (items_of ts)
item_read None ts h = ap (option_map data_of) h ∙ last_item_of ts
item_read (Some t) ts h = ap (option_map data_of) h ∙ last_item_of ts

pub returns-in-List : goal.returns-in-List
returns-in-List c =
    let whole = ap items_of c.deref.ensures.value ∙ c.list.view_is in
    rw c.in-List.is (item_read _ c.deref.result.now c.last.ensures.value ∙ ap last_item whole)

pub returns-in-Some : goal.returns-in-Some
returns-in-Some c =
    let whole = ap members_of c.deref-in-Object.ensures.value ∙ c.object.view_is in
    rw c.in-Object.is (ap (option_map (λ m. data_of m.tree)) c.in-Some.ensures.value ∙ last_member_of c.deref-in-Object.result.now ∙ ap last_member whole)
