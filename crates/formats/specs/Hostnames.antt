-- How long a host name and its labels are (RFC 1034, 3.1), in bytes.
use Rattle.std.specs.Prelude.{ℕ, List, Bool, length, ◌==◌, ◌&&◌, nat_le}
use Rattle.std.specs.List.{list_all, slice_split}

-- each label, between dots, has at most 63
abbrev pub fits : List ℕ → Bool
fits text = nat_le (length text) 255 && list_all (λ label. nat_le (length label) 63) (slice_split (λ b. b == 46) text)
