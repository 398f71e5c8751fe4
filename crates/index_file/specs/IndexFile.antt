-- The bytes of an index file: a head, and the bitmaps behind it. Numbers stand with the lowest byte first.
use Rattle.std.specs.Prelude.{◌≡◌, ◌-◌, ◌^◌, ◌<◌, ℕ, ℤ, Bool, List, [], ◌∷◌, ◌++◌, None, Some, length, FitsSigned}
use Rattle.std.specs.Int.{w32, w64, w128, to_le_bytes, cast_unsigned}
use Rattle.std.specs.List.{AllByRecursion, flat_map}
use Rattle.index_spec.specs.Counts.{bitmap_count}
use Rattle.index_spec.specs.Language.{IsGiven}
use Rattle.index_spec.specs.Printed.{printed}
use Rattle.index_spec.specs.declared.spec.Spec.{Spec}
use Rattle.wah_words.specs.Bytes.{spelling}
use Rattle.index_file.specs.Order.{first_out_of_order}
use Rattle.index_file.specs.Places.{head_size, places_from}
use Rattle.index_file.specs.declared.edge.Edge.{Edge}

-- `FBIX`
abbrev pub magic : List ℕ
magic = 70 ∷ 66 ∷ 73 ∷ 88 ∷ []

-- a number of 16 bytes in two's complement
unfoldable pub end_bytes : ℤ → List ℕ
end_bytes number = to_le_bytes w128 (cast_unsigned w128 number)

-- both ends have such numbers
abbrev pub EdgeFits : Edge → Type 0
EdgeFits edge = FitsSigned w128 edge.least × FitsSigned w128 edge.greatest

-- the least and the greatest value of a bin
abbrev pub edge_bytes : Edge → List ℕ
edge_bytes edge = end_bytes edge.least ++ end_bytes edge.greatest

unfoldable pub edges_bytes : List Edge → List ℕ
edges_bytes edges = flat_map edge_bytes edges

unfoldable pub places_bytes : List ℕ → List ℕ
places_bytes places = flat_map (to_le_bytes w64) places

-- the word, the version, and the numbers of rows, bins, bitmaps and bytes of the specification
unfoldable pub front_bytes : ℕ → ℕ → ℕ → ℕ → List ℕ
front_bytes rows bins bitmaps text =
    magic ++ (to_le_bytes w32 1 ++ (to_le_bytes w32 rows ++ (to_le_bytes w32 bins ++ (to_le_bytes w32 bitmaps ++ to_le_bytes w32 text))))

-- what stands behind them: the specification's text, the ends of each bin, and where each bitmap begins and the last ends
unfoldable pub parts_bytes : List ℕ → List Edge → List ℕ → List ℕ
parts_bytes text edges places = text ++ (edges_bytes edges ++ places_bytes places)

unfoldable pub head_bytes : ℕ → List ℕ → List Edge → List ℕ → List ℕ
head_bytes rows text edges places =
    front_bytes rows (length edges) (length places - 1) (length text) ++ parts_bytes text edges places

-- where the bitmaps begin behind the head, and where the file ends
abbrev pub places_of : Spec → List Edge → List (List Bool) → List ℕ
places_of spec edges bitmaps = places_from (head_size (length (printed spec)) (length edges) (length bitmaps)) bitmaps

unfoldable pub index_bytes : ℕ → Spec → List Edge → List (List Bool) → List ℕ
index_bytes rows spec edges bitmaps =
    head_bytes rows (printed spec) edges (places_of spec edges bitmaps) ++ flat_map spelling bitmaps

-- an index of so many rows: its bins rise, and it has as many bitmaps of these rows as its encoding has of the bins
pub record IsIndex (rows : ℕ) (spec : Spec) (edges : List Edge) (bitmaps : List (List Bool)) : Type 0 where
  pub given : IsGiven spec
  pub ordered : first_out_of_order edges ≡ None
  pub counted : bitmap_count spec.encoding (length edges) ≡ Some (length bitmaps)
  pub few_bitmaps : length bitmaps < 2 ^ 32
  pub each : AllByRecursion (λ bits. length bits ≡ rows) bitmaps
