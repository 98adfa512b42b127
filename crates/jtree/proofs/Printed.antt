-- The text that `json` writes for the tokens of a tree is the compact text of the tree.
use Rattle.std.proofs.Common.{◌≡◌, ℕ, List, [], ◌∷◌, ◌++◌, Bool, true, false, refl, sym, ap, ◌∙◌, append_assoc, append-nil}
use Rattle.json.specs.Token.{Token}
use Rattle.json.specs.Print.{print, print_from, quoted}
use Rattle.json.specs.Tree.{json_tokens, items_tokens, members_tokens}
use Rattle.serde_json.specs.Written.{comma_if}
use Rattle.jtree.specs.Data.{Data, null, boolean, integer, number, text, list, object, Items, no_items, item, Members, no_members, member}
use Rattle.jtree.specs.Text.{outline, items_outline, members_outline, compact, items_text, members_text}

regroup : (q a b c : List ℕ) → (q ++ 58 ∷ []) ++ (a ++ (b ++ c)) ≡ (q ++ 58 ∷ (a ++ b)) ++ c
regroup q a b c = append_assoc q _ _ ∙ sym (append_assoc q _ c ∙ ap (λ s. q ++ 58 ∷ s) (append_assoc a b c))

regroup_item : (q a b c : List ℕ) → q ++ (a ++ (b ++ c)) ≡ (q ++ (a ++ b)) ++ c
regroup_item q a b c = simp append_assoc

print_member : (k : List ℕ) (d : Data) (ms : Members) (ts : List Token)
    → print_from false (json_tokens (outline d) ++ (members_tokens (members_outline ms) ++ ts)) ≡ compact d ++ print_from true (members_tokens (members_outline ms) ++ ts)
    → print_from true (members_tokens (members_outline ms) ++ ts) ≡ members_text true ms ++ print_from true ts
    → (quoted k ++ 58 ∷ []) ++ print_from false ((json_tokens (outline d) ++ members_tokens (members_outline ms)) ++ ts) ≡ (quoted k ++ 58 ∷ (compact d ++ members_text true ms)) ++ print_from true ts
print_member k d ms ts value rest =
    let whole = ap (print_from false) (append_assoc (json_tokens (outline d)) (members_tokens (members_outline ms)) ts) ∙ value in
    ap (λ s. (quoted k ++ 58 ∷ []) ++ s) (whole ∙ ap (λ s. compact d ++ s) rest) ∙ regroup (quoted k) (compact d) (members_text true ms) (print_from true ts)

mutual
  unfolding print_from

  print_value : (later : Bool) (d : Data) (ts : List Token) → print_from later (json_tokens (outline d) ++ ts) ≡ comma_if later ++ (compact d ++ print_from true ts)
  print_value true null ts = refl
  print_value false null ts = refl
  print_value true (boolean b) ts = refl
  print_value false (boolean b) ts = refl
  print_value true (integer z) ts = refl
  print_value true (number s) ts = refl
  print_value false (integer z) ts = refl
  print_value false (number s) ts = refl
  print_value true (text s) ts = refl
  print_value false (text s) ts = refl
  print_value true (list ds) ts = ap (λ s. 44 ∷ 91 ∷ s) (print_items false ds ts)
  print_value false (list ds) ts = ap (λ s. 91 ∷ s) (print_items false ds ts)
  print_value true (object ms) ts = ap (λ s. 44 ∷ 123 ∷ s) (print_members false ms ts)
  print_value false (object ms) ts = ap (λ s. 123 ∷ s) (print_members false ms ts)

  print_items : (later : Bool) (ds : Items) (ts : List Token) → print_from later (items_tokens (items_outline ds) ++ ts) ≡ items_text later ds ++ print_from true ts
  print_items true no_items ts = refl
  print_items false no_items ts = refl
  print_items later (item d ds) ts =
      let rest = items_tokens (items_outline ds) in
      ap (print_from later) (append_assoc (json_tokens (outline d)) rest ts) ∙ print_value later d (rest ++ ts) ∙ ap (λ s. comma_if later ++ (compact d ++ s)) (print_items true ds ts)
      ∙ regroup_item (comma_if later) (compact d) (items_text true ds) (print_from true ts)

  print_members : (later : Bool) (ms : Members) (ts : List Token) → print_from later (members_tokens (members_outline ms) ++ ts) ≡ members_text later ms ++ print_from true ts
  print_members true no_members ts = refl
  print_members false no_members ts = refl
  print_members true (member k d ms) ts = ap (λ s. 44 ∷ s) (print_member k d ms ts (print_value false d (members_tokens (members_outline ms) ++ ts)) (print_members true ms ts))
  print_members false (member k d ms) ts = print_member k d ms ts (print_value false d (members_tokens (members_outline ms) ++ ts)) (print_members true ms ts)

pub print-outline : (d : Data) → print (json_tokens (outline d)) ≡ compact d
unfolding print_from
print-outline d = ap print (sym (append-nil (json_tokens (outline d)))) ∙ print_value false d [] ∙ append-nil (compact d)
