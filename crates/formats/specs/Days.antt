-- Whether the text of a date, `2006-01-02` and what follows, names a day that there is (RFC 3339, 5.7).
use Rattle.std.specs.Prelude.{ℕ, ◌+◌, ◌*◌, ◌-◌, ◌%◌, List, get_or, Bool, ◌==◌, ◌&&◌, ◌||◌, not, nat_le, if◌then◌else◌}

-- the digit at an index
abbrev pub digit_at : List ℕ → ℕ → ℕ
digit_at text i = get_or text i 48 - 48

-- the number of two digits
abbrev pub two_at : List ℕ → ℕ → ℕ
two_at text i = 10 * digit_at text i + digit_at text (i + 1)

abbrev pub is_leap_year : ℕ → Bool
is_leap_year year = (year % 4 == 0) && (not (year % 100 == 0) || (year % 400 == 0))

abbrev pub days_in : ℕ → ℕ → ℕ
days_in year month =
    if month == 2 then (if is_leap_year year then 29 else 28) else
    if month == 4 || (month == 6 || (month == 9 || month == 11)) then 30 else 31

abbrev pub is_day : ℕ → ℕ → ℕ → Bool
is_day year month day = (nat_le 1 month && nat_le month 12) && (nat_le 1 day && nat_le day (days_in year month))

abbrev pub names_day : List ℕ → Bool
names_day text = is_day (100 * two_at text 0 + two_at text 2) (two_at text 5) (two_at text 8)
