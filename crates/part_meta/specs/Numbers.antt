-- Numbers as a line has them: in decimal, without a sign and without leading zeros.
use Rattle.std.specs.Prelude.{ℕ, Bool, false, not, ◌&&◌, ◌||◌, ◌==◌, List, [], ◌∷◌, length}
use Rattle.std.specs.Char.{is_ascii_digit}

-- begins with a digit, which is 0 (48) only where it is the whole number
abbrev pub begins_plainly : List ℕ → Bool
begins_plainly [] = false
begins_plainly (d ∷ ds) = is_ascii_digit d && (not (d == 48) || length ds == 0)
