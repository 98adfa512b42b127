-- Which texts are of a format (OpenAPI 3.0, `format`), as the API server tests them, by what the tests of patterns match.
use Rattle.std.specs.Prelude.{ℕ, List, [], ◌∷◌, Bool, true, false, Option, Some, None, not, length, nat_le, ◌&&◌, ◌||◌}
use Rattle.formats.specs.Expressions.{expressions_of, address, named_address, begins_with_address, go_duration, with_unit, too_large}
use Rattle.formats.specs.Addresses.{has_groups}
use Rattle.formats.specs.Days.{names_day}
use Rattle.formats.specs.Hostnames as hostnames
use Rattle.formats.specs.Digits.{has_isbn_check, has_ean_check, has_card_check}
use Rattle.formats.specs.Durations as durations
use Rattle.formats.specs.declared.format.Format.{Format}
use Rattle.formats.specs.declared.format.Format.TheVariants.{Cidr, CreditCard, Date, DateTime, Duration, Email, Hostname, Ipv4, Ipv6, Isbn, Isbn10, Isbn13, LongName, Password}

-- whether a text matches a pattern
abbrev pub Matches : Type 0
Matches = List ℕ → List ℕ → Bool

abbrev pub matches_any : Matches → List (List ℕ) → List ℕ → Bool
matches_any matches [] text = false
matches_any matches (e ∷ es) text = matches e text || matches_any matches es text

-- what is asked of a text besides the expressions
abbrev pub meets : Format → List ℕ → Bool
meets Cidr text = has_groups text
meets Ipv4 text = has_groups text
meets Ipv6 text = has_groups text
meets CreditCard text = has_card_check text
meets Isbn10 text = has_isbn_check text
meets Isbn13 text = has_ean_check text
meets Date text = names_day text
meets DateTime text = names_day text
meets Hostname text = hostnames.fits text
meets LongName text = nat_le (length text) 253
meets _ text = true

abbrev pub is_plain : Matches → Format → List ℕ → Bool
is_plain matches format text = matches_any matches (expressions_of format) text && meets format text

abbrev pub is_isbn : Matches → List ℕ → Bool
is_isbn matches text = is_plain matches Isbn10 text || is_plain matches Isbn13 text

abbrev pub is_email : Matches → List ℕ → Bool
is_email matches text = matches address text || (matches named_address text && not (matches begins_with_address text))

abbrev pub is_duration : Matches → List ℕ → Bool
is_duration matches text = (matches go_duration text && durations.fits text) || (matches with_unit text && not (matches too_large text))

abbrev pub is_of : Matches → Format → List ℕ → Bool
is_of matches Password text = true
is_of matches Isbn text = is_isbn matches text
is_of matches Email text = is_email matches text
is_of matches Duration text = is_duration matches text
is_of matches format text = is_plain matches format text

-- where a name is none, nothing is asked
abbrev pub has_named : Matches → Option Format → List ℕ → Bool
has_named matches None text = true
has_named matches (Some format) text = is_of matches format text
