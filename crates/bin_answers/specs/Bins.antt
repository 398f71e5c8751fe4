-- What the bins of a column say of a condition by spans, on each row.
use Rattle.std.specs.Prelude.{ℕ, Bool, false, List, map, Option, Some, None, slice_index_or}
use Rattle.std.specs.List.{filter, find}
use Rattle.binning.specs.Against.{against}
use Rattle.binning.specs.Encodings.{vectors}
use Rattle.binning.specs.Members.{in_run, union_of}
use Rattle.binning.specs.declared.against_bins.Three.{Three}
use Rattle.binning.specs.declared.against_bins.Three.TheVariants.{No}
use Rattle.binning.specs.declared.gathering.Bin.{Bin}
use Rattle.binning.specs.declared.span_lists.Span.{Span}
use Rattle.index_file.specs.declared.edge.Edge.{Edge}
use Rattle.bin_answers.specs.BinRuns.{is_same}
use Rattle.bin_answers.specs.declared.bin_runs.BinRun.{BinRun}

-- ---- rows

-- the bin that has the row; None where none has it
abbrev pub bin_at : ℕ → List Bin → Option Bin
bin_at row bins = find (λ bin. slice_index_or bin.rows row false) bins

abbrev pub said_by : (Bin → Three) → Option Bin → Three
said_by says None = No
said_by says (Some bin) = says bin

-- what the row's bin says of the spans; No where no bin has the row
abbrev pub bin_answer : List Span → List Bin → ℕ → Three
bin_answer spans bins row = said_by (λ bin. against bin.least bin.greatest spans) (bin_at row bins)

-- ---- bins

-- the least and the greatest value of a bin, as an index file has them
abbrev pub edge_of : Bin → Edge
edge_of bin = record { least = bin.least; greatest = bin.greatest }

-- what each bin says of the spans
abbrev pub edges_say : List Edge → List Span → List Three
edges_say edges spans = map (λ edge. against edge.least edge.greatest spans) edges

-- the rows of each run with this answer, run by run
abbrev pub rows_of_runs : ℕ → List Bin → Three → List BinRun → List (List Bool)
rows_of_runs rows bins answer runs =
    map (λ r. union_of rows (in_run r.first r.past) (vectors bins)) (filter (λ r. is_same answer r.answer) runs)
