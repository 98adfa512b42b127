-- Which texts are those of the items of a map list, by the text before the last step.
use Rattle.std.specs.Prelude.{◌≡◌, ◌↔◌, ℕ, List, [], ◌∷◌, ◌++◌, Bool, true, false, Some, not}
use Rattle.std.proofs.Common.{refl, ap, sym, ◌∙◌, subst}
use Rattle.std.proofs.lemmas.Option.{same_Some}
use Rattle.std.proofs.lemmas.List.{append-nil, append_assoc, append_cancel_right}
use Rattle.schema.specs.Nodes.Node.{Node}
use Rattle.schema.specs.Nodes.ByPlace.{node_at}
use Rattle.explain.specs.Paths.FieldPath.{FieldStep, item, FieldPath, place_of}
use Rattle.explain.specs.Paths.PathText.{step_text, path_text}
use Rattle.explain.specs.Fields.Declared.{IsDeclared}
use Rattle.explain.specs.Fields.PathFault.{IsTextOf, IsPathFault}
use Rattle.explain.specs.declared.fault.XFault.{XFault}
use Rattle.explain.specs.declared.fault.XFault.TheVariants.{BadPath as BadText, NoSuchField}
use Rattle.plan.specs.Pools.FixedPaths.{is_map_list, IsFixablePath}
use Rattle.plan.specs.Internal.PathLists.{IsMapListText}
use Rattle.plan.proofs.PoolPathLemmas.{OneText}

pub join_text : (q : FieldPath) (t : FieldStep) → path_text (q ++ t ∷ []) ≡ path_text q ++ step_text t
join_text [] t = append-nil (step_text t)
join_text (s ∷ q) t = ap (λ l. step_text s ++ l) (join_text q t) ∙ sym (append_assoc (step_text s) (path_text q) (step_text t))

-- the items of a map list
pub bad_item : OneText → (root N : Node) (q : FieldPath) (text : List ℕ) → text ≡ path_text q ++ step_text item → node_at root (place_of q) ≡ Some N → is_map_list N ≡ true → IsFixablePath root text → ⊥
bad_item one root N q text is found map h =
    let same : h.0 ≡ q ++ item ∷ [] = one h.0 (q ++ item ∷ []) (h.1 ∙ is ∙ sym (join_text q item)) in
    h.2.1 (q, (same, (N, (found, map))))

-- whether a path that leads to this node leads to a map list
pub known_list : OneText → (root N : Node) (q : FieldPath) (text : List ℕ) → path_text q ≡ text → node_at root (place_of q) ≡ Some N → (is_map_list N ≡ true) ↔ IsMapListText root text
known_list one root N q text is found = (
  (λ yes. (q, is, (N, (found, yes)))),
  λ m.
      let same : m.0 ≡ q = one m.0 q (m.1 ∙ sym is) in
      let node : m.2.0 ≡ N = same_Some m.2.0 N (sym m.2.1.0 ∙ ap (λ r. node_at root (place_of r)) same ∙ found) in
      sym (ap is_map_list node) ∙ m.2.1.1,
)

-- a text at which there is no field leads to no map list, but that of the root may
pub no_list : OneText → (root : Node) (text : List ℕ) (e : XFault) → IsPathFault (IsDeclared root) text e → (text ≡ [] → ⊥) → IsMapListText root text → ⊥
no_list one root text BadText none some m = none m.0 m.1
no_list one root text NoSuchField t some m =
    let same : t.0 ≡ m.0 = one t.0 m.0 (t.1 ∙ sym m.1) in
    t.2 (subst (IsDeclared root) (sym same) ((λ none. some (sym m.1 ∙ ap path_text none)), (m.2.0, m.2.1.0)))

-- the text of a declared path that ends as that of items does
pub item_path : OneText → (root N : Node) (text before : List ℕ) (leads : Bool) → IsTextOf (λ p. IsDeclared root p × (node_at root (place_of p) ≡ Some N)) text → text ≡ before ++ step_text item
    → (leads ≡ true) ↔ IsMapListText root before → (not leads ≡ true) ↔ IsFixablePath root text
item_path one root N text before true t is list =
    let m = list.0 refl in
    ((λ e. absurd (cc)), λ h. absurd (bad_item one root m.2.0 m.0 text (is ∙ ap (λ l. l ++ step_text item) (sym m.1)) m.2.1.0 m.2.1.1 h))
item_path one root N text before false t is list = (
  (λ e. (
    t.0,
    t.1,
    (
      t.2.0,
      λ m.
          let front : path_text m.0 ≡ before = append_cancel_right (path_text m.0) before (step_text item) (sym (join_text m.0 item) ∙ ap path_text (sym m.1.0) ∙ t.1 ∙ is) in
          let no : false ≡ true = list.1 (m.0, front, m.1.1) in
          absurd (cc),
    ),
  )),
  λ h. refl,
)
