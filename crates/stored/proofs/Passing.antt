-- The last step of passing members on.
use Rattle.std.proofs.Common.{◌≡◌, ℕ, List, [], ◌∷◌, Some, None, refl, sym, ap, ◌∙◌}
use Rattle.std.proofs.lemmas.List.{append-nil}
use Rattle.std.proofs.Common.{rules}
use Rattle.std.specs.declared.cmp.Ordering.TheVariants.{Equal, Greater}
use Rattle.std.specs.Ordering.{ordering_reverse}
use Rattle.std.proofs.lemmas.Cmp.{nat_list_cmp_total}
use Rattle.std.proofs.lemmas.Map.Lookups.{exact_bytes}
use Rattle.jtree.specs.Order.{text_cmp}
use Rattle.jtree.specs.declared.value.Member.{Member}
use Rattle.stored.specs.Internal.Defaulting.{IsPassed}

pub pass_found : (k : List ℕ) (m : Member) (ms passed : List Member) → text_cmp m.name k ≡ Equal → IsPassed k (m ∷ ms) ms passed passed (Some m)
pass_found k m ms passed same = record { passed = []; are_before = search rules; out = sym (append-nil passed); left = refl; named = exact_bytes m.name k same }

pub pass_absent : (k : List ℕ) (m : Member) (ms passed : List Member) → text_cmp m.name k ≡ Greater → IsPassed k (m ∷ ms) (m ∷ ms) passed passed None
pass_absent k m ms passed past = record { passed = []; are_before = search rules; out = sym (append-nil passed); left = refl; named = nat_list_cmp_total.antisymm k m.name ∙ ap ordering_reverse past }
