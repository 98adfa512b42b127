-- How a list, a map, and the keys of a map are made, one by one.
use Rattle.std.proofs.Common.{◌≡◌, ◌<◌, ◌+◌, ℕ, List, [], ◌∷◌, ◌++◌, Result, Ok, Err, length, get_or, drop, refl, sym, ap, ◌∙◌}
use Rattle.std.proofs.lemmas.List.{at_drop_more}
use Rattle.cel_ast.specs.Syntax as syntax
use Rattle.cel_ast.specs.View as ast
use Rattle.cel_ast.specs.declared.expr.Element.{Element}
use Rattle.cel_ast.specs.declared.expr.Entry.{Entry}
use Rattle.cel_value.specs.Data.{Value, Values, no_values, item, Key, Entries, no_entries, entry}
use Rattle.cel_value.specs.Map.{value_of_key}
use Rattle.cel_value.specs.View.{value_of, values_of, key_of, entries_of}
use Rattle.cel_value.specs.declared.value.Value.{Value as Held}
use Rattle.cel_value.specs.declared.value.Entry.{Entry as HeldEntry}
use Rattle.cel_eval.specs.declared.stop.Stop.{Stop}
use Rattle.cel_eval.specs.Outcome.{Outcome, value, Bindings}
use Rattle.cel_eval.specs.Operators.{joined}
use Rattle.cel_eval.specs.Ranges.{put, keys}
use Rattle.cel_eval.specs.Making.{pair_of, put_entry, required}
use Rattle.cel_eval.specs.Eval.{eval, eval_elements, eval_entries, eval_key}
use Rattle.cel_eval.proofs.ListLemmas.{joined_more}
use Rattle.cel_eval.proofs.RangeLemmas.{ahead, ahead_put}

elements_left : (xs : List Element) (i : ℕ) (x : Element) → i < length xs → x ≡ get_or xs i x
    → ast.elements_of (drop i xs) ≡ syntax.element x.optional x.expr (ast.elements_of (drop (i + 1) xs))
elements_left xs i x h p = at_drop_more ast.elements_of xs i x h ∙ ap (λ z. syntax.element z.optional z.expr (ast.elements_of (drop (i + 1) xs))) (sym p)

entries_left : (xs : List Entry) (i : ℕ) (x : Entry) → i < length xs → x ≡ get_or xs i x
    → ast.entries_of (drop i xs) ≡ syntax.entry x.optional (ast.key_of x.key) x.value (ast.entries_of (drop (i + 1) xs))
entries_left xs i x h p =
    at_drop_more ast.entries_of xs i x h ∙ ap (λ z. syntax.entry z.optional (ast.key_of z.key) z.value (ast.entries_of (drop (i + 1) xs))) (sym p)

pub element_step : (bs : Bindings) (made : List Held) (o : Outcome) (y : Held) (whole : Result Values Stop) (xs : List Element) (i : ℕ) (x : Element)
    → i < length xs → x ≡ get_or xs i x → o ≡ value (value_of y) → o ≡ required x.optional (eval x.expr bs)
    → ahead (values_of made) (eval_elements (ast.elements_of (drop i xs)) bs) ≡ whole
    → ahead (values_of (made ++ y ∷ [])) (eval_elements (ast.elements_of (drop (i + 1) xs)) bs) ≡ whole
element_step bs made o y whole xs i x h p e f w =
    let rest = eval_elements (ast.elements_of (drop (i + 1) xs)) bs in
    sym (ahead_put made y rest) ∙ ap (λ u. ahead (values_of made) (put u rest)) (sym e ∙ f)
    ∙ ap (λ es. ahead (values_of made) (eval_elements es bs)) (sym (elements_left xs i x h p)) ∙ w

-- entries after entries
abbrev pub entries_joined : Entries → Entries → Entries
entries_joined no_entries fs = fs
entries_joined (entry k v es) fs = entry k v (entries_joined es fs)

abbrev pub entries_ahead : Entries → Result Entries Stop → Result Entries Stop
entries_ahead es (Ok fs) = Ok (entries_joined es fs)
entries_ahead es (Err s) = Err s

entries_none : (es : Entries) → entries_joined es no_entries ≡ es
entries_none no_entries = refl
entries_none (entry k v es) = ap (entry k v) (entries_none es)

entries_more : (xs : List HeldEntry) (y : HeldEntry) (es : Entries)
    → entries_joined (entries_of (xs ++ y ∷ [])) es ≡ entries_joined (entries_of xs) (entry (key_of y.key) (value_of y.value) es)
entries_more [] y es = refl
entries_more (x ∷ xs) y es = ap (entry (key_of x.key) (value_of x.value)) (entries_more xs y es)

entries_put : (xs : List HeldEntry) (y : HeldEntry) (r : Result Entries Stop)
    → entries_ahead (entries_of xs) (put_entry (Ok (key_of y.key, value_of y.value)) r) ≡ entries_ahead (entries_of (xs ++ y ∷ [])) r
entries_put xs y (Ok es) = ap Ok (sym (entries_more xs y es))
entries_put xs y (Err s) = refl

pub entries_end : (made : List HeldEntry) (r whole : Result Entries Stop) → r ≡ Ok no_entries → entries_ahead (entries_of made) r ≡ whole → Ok (entries_of made) ≡ whole
entries_end made r whole e w = ap Ok (sym (entries_none (entries_of made))) ∙ ap (entries_ahead (entries_of made)) (sym e) ∙ w

pub entry_step : (bs : Bindings) (made : List HeldEntry) (y : HeldEntry) (whole : Result Entries Stop) (xs : List Entry) (i : ℕ) (x : Entry)
    → i < length xs → x ≡ get_or xs i x
    → Ok (key_of y.key, value_of y.value) ≡ pair_of (eval_key (ast.key_of x.key) bs) (required x.optional (eval x.value bs))
    → entries_ahead (entries_of made) (eval_entries (ast.entries_of (drop i xs)) bs) ≡ whole
    → entries_ahead (entries_of (made ++ y ∷ [])) (eval_entries (ast.entries_of (drop (i + 1) xs)) bs) ≡ whole
entry_step bs made y whole xs i x h p e w =
    let rest = eval_entries (ast.entries_of (drop (i + 1) xs)) bs in
    sym (entries_put made y rest) ∙ ap (λ u. entries_ahead (entries_of made) (put_entry u rest)) e
    ∙ ap (λ es. entries_ahead (entries_of made) (eval_entries es bs)) (sym (entries_left xs i x h p)) ∙ w

keys_left : (es : List HeldEntry) (i : ℕ) (e : HeldEntry) → i < length es → e ≡ get_or es i e
    → keys (entries_of (drop i es)) ≡ item (value_of_key (key_of e.key)) (keys (entries_of (drop (i + 1) es)))
keys_left es i e h p =
    ap keys (at_drop_more entries_of es i e h) ∙ ap (λ z. item (value_of_key (key_of z.key)) (keys (entries_of (drop (i + 1) es)))) (sym p)

pub key_step : (made : List Held) (es : List HeldEntry) (i : ℕ) (e : HeldEntry) (y : Held) (whole : Values) → i < length es → e ≡ get_or es i e
    → value_of y ≡ value_of_key (key_of e.key) → joined (values_of made) (keys (entries_of (drop i es))) ≡ whole
    → joined (values_of (made ++ y ∷ [])) (keys (entries_of (drop (i + 1) es))) ≡ whole
key_step made es i e y whole h p q w =
    let rest = keys (entries_of (drop (i + 1) es)) in
    joined_more made y rest ∙ ap (λ z. joined (values_of made) (item z rest)) q ∙ ap (joined (values_of made)) (sym (keys_left es i e h p)) ∙ w
