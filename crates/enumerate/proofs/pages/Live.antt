-- Where an enumeration is after a move, and how many steps it took.
use Rattle.std.proofs.Common.{◌≡◌, ◌*◌, ℕ, Bool, Option, Some, sym, ap, ◌∙◌, subst}
use Rattle.std.specs.Prelude.{is_some, option_map}
use Rattle.jtree.specs.Data.{Data}
use Rattle.jtree.specs.View.{data_of}
use Rattle.plan.specs.Samples.Question.{Question}
use Rattle.enumerate.specs.Live.{Enumeration, IsNextSample, IsAdvanced, IsWithinDelay}
use Rattle.enumerate.specs.declared.current.Current.{Current}
use Rattle.enumerate.specs.Internal.Nodes.{Costs}
use Rattle.enumerate.proofs.samples.Current.{advance_within}

abbrev pub enumeration : Question → Option Current → Enumeration
enumeration q current = record { question = q; at = option_map (λ (s : Current). data_of s.tree) current }

module _ (old : Enumeration) (q : Question) (current : Option Current) (is : enumeration q current ≡ old) where
  pub advanced : (s : Current) (next : Option Data) (more : Bool) → current ≡ Some s → IsNextSample q (Some (data_of s.tree)) next → more ≡ is_some next → IsAdvanced old (record { question = q; at = next }) more
  advanced s next more old_at moved there = record {
    last = data_of s.tree;
    old_at = sym (ap (λ e. e.at) is) ∙ ap (option_map (λ (s : Current). data_of s.tree)) old_at;
    next = subst (λ (e : Enumeration). IsNextSample e.question (Some (data_of s.tree)) next) is moved;
    more_is = there;
  }

  pub within_delay : (before after : ℕ) → Costs q before after (3 * q.limit) → IsWithinDelay old.question before after
  within_delay before after costs = subst (λ (e : Enumeration). IsWithinDelay e.question before after) is (advance_within q before after costs)
