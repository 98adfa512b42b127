-- How many groups an IPv6 address has (RFC 4291, 2.2): eight, or at most seven where `::` stands for the others. An IPv4 address at its end
-- counts as two.
use Rattle.std.specs.Prelude.{ℕ, ◌-◌, List, [], ◌∷◌, length, filter, Bool, false, ◌==◌, ◌&&◌, ◌||◌, not, nat_le, if◌then◌else◌}
use Rattle.std.specs.List.{list_any, slice_split}

-- what stands between colons is a group, if it is not empty and not the length of a prefix right after `::`
abbrev pub is_group : List ℕ → Bool
is_group [] = false
is_group (b ∷ bs) = not (b == 47)

abbrev pub group_count : List ℕ → ℕ
group_count text = length (filter is_group (slice_split (λ b. b == 58) text))

abbrev pub has_dot : List ℕ → Bool
has_dot text = list_any (λ b. b == 46) text

-- two colons stand beside each other
abbrev pub has_gap : List ℕ → Bool
has_gap [] = false
has_gap (a ∷ []) = false
has_gap (a ∷ b ∷ bs) = (a == 58 && b == 58) || has_gap (b ∷ bs)

abbrev pub has_groups : List ℕ → Bool
has_groups text = nat_le (group_count text) ((if has_gap text then 7 else 8) - (if has_dot text then 1 else 0))
