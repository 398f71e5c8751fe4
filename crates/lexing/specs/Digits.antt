-- Decimal digits, and the numbers that they write.
use Rattle.std.specs.Prelude.{ℕ, ◌-◌, ◌^◌, min, Bool, if◌then◌else◌, List, [], ◌∷◌, take, drop, Option, Some, None, ℤ, pos, neg_ℤ}
use Rattle.std.specs.Option.{option_map}
use Rattle.std.specs.List.{prefix_len, list_all}
use Rattle.std.specs.Char.{is_ascii_digit}
use Rattle.std.specs.Str.Parse.{digits_value}

-- the number that one or more digits write
abbrev pub natural_of : List ℕ → Option ℕ
natural_of [] = None
natural_of (d ∷ ds) = if list_all is_ascii_digit (d ∷ ds) then Some (digits_value 10 (d ∷ ds)) else None

-- the number whose digits, one or more, stand at the front, and what follows them
unfoldable pub natural_at : List ℕ → Option (ℕ × List ℕ)
natural_at text =
    let n = prefix_len is_ascii_digit text in
    option_map (λ number. (number, drop n text)) (natural_of (take n text))

-- a number beyond unsigned 128 bits, cut to the greatest of them
abbrev pub saturated : ℕ → ℕ
saturated n = min n (2 ^ 128 - 1)

abbrev pub saturated_front : ℕ × List ℕ → ℕ × List ℕ
saturated_front found = (saturated found.0, found.1)

-- the number of this size, with or without a minus
abbrev pub signed : Bool → ℕ → ℤ
signed is_negative n = if is_negative then neg_ℤ (pos n) else pos n
