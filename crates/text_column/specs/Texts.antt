-- The two files of a text column: the bytes of its texts, and where each row's begin.
use Rattle.std.specs.Prelude.{ℕ, suc, ◌+◌, ◌-◌, ◌≤◌, ◌==◌, List, [], ◌∷◌, length, map, take, drop, slice_index, Option, None, Some, option_map, nat_lt, if◌then◌else◌}
use Rattle.std.specs.Int.{w64, to_le_bytes, from_le_bytes}
use Rattle.std.specs.List.{flat_map}
use Rattle.std.specs.Simd.{first_chunks}

-- the texts of all rows, one after another
abbrev pub text_file : List (List ℕ) → List ℕ
text_file texts = flat_map (λ text. text) texts

-- where each text begins, from a place on, and where the last one ends
abbrev pub starts_from : ℕ → List (List ℕ) → List ℕ
starts_from at [] = at ∷ []
starts_from at (text ∷ texts) = at ∷ starts_from (at + length text) texts

abbrev pub starts_of : List (List ℕ) → List ℕ
starts_of texts = starts_from 0 texts

-- each start in eight bytes, the lowest first
unfoldable pub starts_bytes : List ℕ → List ℕ
starts_bytes starts = flat_map (to_le_bytes w64) starts

-- ---- reading

-- so many starts
unfoldable pub starts_at : ℕ → List ℕ → List ℕ
starts_at count bytes = map (from_le_bytes w64) (first_chunks 8 count bytes)

-- the place of the first start that is below the one before it
abbrev pub first_below : ℕ → List ℕ → Option ℕ
first_below last [] = None
first_below last (start ∷ starts) = if nat_lt start last then Some 0 else option_map suc (first_below start starts)

-- the same, where the first start has to be 0
abbrev pub first_wrong : List ℕ → Option ℕ
first_wrong [] = None
first_wrong (start ∷ starts) = if start == 0 then option_map suc (first_below start starts) else Some 0

-- the texts that so many starts part, in bytes that begin at the first of them
abbrev pub texts_at : List ℕ → List ℕ → List (List ℕ)
texts_at [] bytes = []
texts_at (start ∷ []) bytes = []
texts_at (start ∷ next ∷ starts) bytes = take (next - start) bytes ∷ texts_at (next ∷ starts) (drop (next - start) bytes)

-- the bytes have what the starts part
abbrev pub AreWithin : List ℕ → List ℕ → Type 0
AreWithin [] bytes = Unit {0}
AreWithin (start ∷ []) bytes = Unit {0}
AreWithin (start ∷ next ∷ starts) bytes = (start ≤ next) × (next - start ≤ length bytes) × AreWithin (next ∷ starts) (drop (next - start) bytes)

-- the starts of the rows from `first` to `end`, and the place where these end
abbrev pub starts_between : List ℕ → ℕ → ℕ → List ℕ
starts_between starts first end = take (end + 1 - first) (drop first starts)

-- how many bytes these rows have
abbrev pub size_between : List ℕ → ℕ → ℕ → ℕ
size_between starts first end = slice_index starts end - slice_index starts first
