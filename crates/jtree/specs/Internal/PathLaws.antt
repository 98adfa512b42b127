-- The laws of path order.
use Rattle.std.proofs.Common.{◌≡◌, ◌≢◌, ◌<◌, ℕ, List, [], ◌∷◌, refl, arith}
use Rattle.std.specs.Ordering.{nat_cmp}
use Rattle.std.specs.Cmp.{nat_cmp_is}
use Rattle.std.proofs.lemmas.Cmp.{nat_list_cmp_total, nat_cmp_total, tied_itself}
use Rattle.std.specs.declared.cmp.Ordering.TheVariants.{Less, Equal, Greater}
use Rattle.jtree.specs.Order.{text_cmp}
use Rattle.jtree.specs.Path.{Step, name, index, Path}
use Rattle.jtree.specs.PathOrder.{step_cmp, path_cmp}

pub not_before_root : (p : Path) → path_cmp p [] ≢ Less
not_before_root [] less = cc
not_before_root (s ∷ p) less = cc

pub step_itself : (s : Step) → step_cmp s s ≡ Equal
step_itself (name k) = tied_itself nat_list_cmp_total k
step_itself (index i) = tied_itself nat_cmp_total i

pub same_step : (s : Step) (p q : Path) → path_cmp (s ∷ p) (s ∷ q) ≡ path_cmp p q
same_step s p q = let tied = step_itself s in rw tied refl

pub not_before_name : (k l : List ℕ) (p q : Path) → text_cmp k l ≡ Less → path_cmp (name l ∷ p) (name k ∷ q) ≢ Less
not_before_name k l p q before less =
    let turned = nat_list_cmp_total.antisymm l k in
    let greater : text_cmp l k ≡ Greater = rw before at turned in
    let contrary = rw greater at less in
    cc

pub not_before_index : (i j : ℕ) (p q : Path) → i < j → path_cmp (index j ∷ p) (index i ∷ q) ≢ Less
not_before_index i j p q before less =
    let greater : Greater ≡ nat_cmp j i = nat_cmp_is j i Greater (omega arith) in
    let contrary = rw (← greater) at less in
    cc
