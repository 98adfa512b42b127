-- What an expression gives under bindings: by recursion on the expression alone. Common Expression Language specification, "Evaluation"
-- (langdef.md). What crdx does not know is not judged: functions and methods, messages, optional parts, numbers with a suffix `u` or a point,
-- bytes.
use Rattle.std.specs.Prelude.{◌∷◌, Result, Ok, Err}
use Rattle.cel_ast.specs.Syntax.{Syntax, literal, name, select, optional_select, present, call, method, list, map, message, unary, binary, choice, macro, map_where, Parts, Elements, no_elements, element, Entries, no_entries, entry, Key, key, field}
use Rattle.cel_ast.specs.declared.operators.Macro.TheVariants.{Filter, Map}
use Rattle.cel_value.specs.Data as data_
use Rattle.cel_value.specs.Data.{Value, Values, no_values}
use Rattle.cel_eval.specs.declared.stop.Stop.{Stop}
use Rattle.cel_eval.specs.declared.stop.Stop.TheVariants.{NotJudged}
use Rattle.cel_eval.specs.declared.stop.Reason.TheVariants.{Function, Message, Optional}
use Rattle.cel_eval.specs.Outcome.{Outcome, not_judged, bind, bound, Bindings}
use Rattle.cel_eval.specs.Operators as op
use Rattle.cel_eval.specs.Ranges.{put, listed, over, over_range}
use Rattle.cel_eval.specs.Making.{constant_value, as_key, pair_of, put_entry, required, made_map}

abbrev mutual
  pub eval : Syntax → Bindings → Outcome
  eval (literal c) bs = constant_value c
  eval (name x) bs = bound x bs
  eval (select e f) bs = bind (eval e bs) (op.field f)
  eval (optional_select e f) bs = not_judged Optional
  eval (present e f) bs = bind (eval e bs) (op.has_field f)
  eval (call f ps) bs = not_judged Function
  eval (method e f ps) bs = not_judged Function
  eval (list es) bs = listed (eval_elements es bs)
  eval (map es) bs = made_map (eval_entries es bs)
  eval (message n es) bs = not_judged Message
  eval (unary o e) bs = bind (eval e bs) (op.unary_of o)
  eval (binary o a b) bs = op.binary_of o (eval a bs) (eval b bs)
  eval (choice c a b) bs = op.chosen (eval c bs) (eval a bs) (eval b bs)
  eval (macro m e x body) bs = bind (eval e bs) (over_range (over m (λ v. eval body ((x, v) ∷ bs))))
  -- `e.map(x, p, t)` is `e.filter(x, p).map(x, t)`
  eval (map_where e x p t) bs =
      bind (bind (eval e bs) (over_range (over Filter (λ v. eval p ((x, v) ∷ bs))))) (over_range (over Map (λ v. eval t ((x, v) ∷ bs))))

  -- the elements of a list; the first stop is the answer
  pub eval_elements : Elements → Bindings → Result Values Stop
  eval_elements no_elements bs = Ok no_values
  eval_elements (element o e es) bs = put (required o (eval e bs)) (eval_elements es bs)

  -- the entries of a map
  pub eval_entries : Entries → Bindings → Result data_.Entries Stop
  eval_entries no_entries bs = Ok data_.no_entries
  eval_entries (entry o k e es) bs = put_entry (pair_of (eval_key k bs) (required o (eval e bs))) (eval_entries es bs)

  pub eval_key : Key → Bindings → Result data_.Key Stop
  eval_key (key e) bs = as_key (eval e bs)
  eval_key (field f) bs = Err (NotJudged Message)
