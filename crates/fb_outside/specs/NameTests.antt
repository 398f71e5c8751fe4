-- The tests by which a name is known. `proofs/Names.antt` shows that they decide the definitions of `Names`.
use Rattle.std.specs.Prelude.{ℕ, Bool, List, [], ◌∷◌, ◌&&◌, ◌||◌, ◌==◌, not, length, nat_lt, nat_le, bytes_eq, if◌then◌else◌}
use Rattle.std.specs.List.{list_all, slice_split}
use Rattle.fb_outside.specs.Names.{is_piece_byte}

-- `.` and `..`
abbrev pub are_dots : List ℕ → Bool
are_dots piece = bytes_eq piece (46 ∷ []) || bytes_eq piece (46 ∷ 46 ∷ [])

-- a piece of a name, of at most `most` bytes
abbrev pub is_piece : ℕ → List ℕ → Bool
is_piece most piece =
    nat_lt 0 (length piece) && nat_le (length piece) most && list_all is_piece_byte piece && not (are_dots piece)

-- pieces joined by single slashes
abbrev pub are_joined : ℕ → List ℕ → Bool
are_joined most text = list_all (is_piece most) (slice_split (λ b. b == 47) text)

-- the same, maybe behind a slash
abbrev pub are_pieces : ℕ → List ℕ → Bool
are_pieces most [] = are_joined most []
are_pieces most (b ∷ bs) = if b == 47 then are_joined most bs else are_joined most (b ∷ bs)
