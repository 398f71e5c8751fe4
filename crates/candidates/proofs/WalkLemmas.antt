-- How far a walk over candidates came.
use Rattle.std.proofs.Common.{◌≡◌, ℕ, ◌+◌, ◌-◌, ◌<◌, ◌≤◌, Bool, true, false, List, [], ◌∷◌, ◌++◌, Option, length, take, drop, replicate, refl, sym, ap, subst, ◌∙◌, arith}
use Rattle.std.specs.List.{flat_map}
use Rattle.std.proofs.lemmas.Grind.{flat_map-append}
use Rattle.std.proofs.lemmas.List.{append-nil, append_assoc, length-append, length-replicate}
use Rattle.fb_outside.specs.Files.{Files}
use Rattle.fb_outside.specs.Reads.{AddsOnly, Look}
use Rattle.fb_outside.proofs.ReadLemmas.{AddsOnly-same, AddsOnly-trans, AddsOnly-weaken}
use Rattle.wah_iter.specs.Rows.{runs_from, runs_of}
use Rattle.wah_logic.specs.Logic.{and, each_place}
use Rattle.candidates.specs.Blocks.{blocks_of, blocks_of_run}
use Rattle.candidates.specs.Reads.{AddsAll, IsBlockLook, IsPartLook, reads_of}
use Rattle.candidates.proofs.FoundLemmas.{found_last, found_more, left_behind, run_fits, run_true}
use Rattle.candidates.proofs.ReadLemmas.{adds_blocks, adds_none}
use Rattle.candidates.proofs.RunLemmas.{first_run, no_run}

-- The rows of some runs are seen, and these runs are left.
pub record Walked (tests : List Bool → Type 0) (look : ℕ × ℕ → Look) (takes : ℕ × ℕ → Bool) (rows : List Bool) (files : Option Files) (old now : Option (List Look)) (bits : List Bool) (left : List (ℕ × ℕ)) : Type 0 where
  pub within : length bits ≤ length rows
  pub ahead : left ≡ runs_from (length bits) (drop (length bits) rows) []
  pub found : (all : List Bool) → tests all → length all ≡ length rows → bits ≡ take (length bits) (each_place and rows all)
  pub reads : AddsOnly (IsBlockLook look rows) old now
  pub done : List (ℕ × ℕ)
  pub runs : done ++ left ≡ runs_of rows
  pub each : AddsAll files old now (reads_of look takes (flat_map blocks_of_run done))

pub walk_begins : (tests : List Bool → Type 0) (look : ℕ × ℕ → Look) (takes : ℕ × ℕ → Bool) (rows : List Bool) (files : Option Files) (old : Option (List Look)) (bits : List Bool) (left : List (ℕ × ℕ))
    → bits ≡ [] → left ≡ runs_of rows → Walked tests look takes rows files old old bits left
walk_begins tests look takes rows files old bits left none is =
    let zero : length bits ≡ 0 = ap length none in
    record {
      within = omega (arith, zero);
      ahead = is ∙ ap (λ n. runs_from n (drop n rows) []) (sym zero);
      found = λ all has same. none ∙ ap (λ n. take n (each_place and rows all)) (sym zero);
      reads = AddsOnly-same (IsBlockLook look rows) old old refl;
      done = [];
      runs = is;
      each = adds_none files old;
    }

-- the next run lies ahead, within the rows
pub run_ahead : (tests : List Bool → Type 0) (look : ℕ × ℕ → Look) (takes : ℕ × ℕ → Bool) (rows : List Bool) (files : Option Files) (old now : Option (List Look)) (bits : List Bool) (left rest : List (ℕ × ℕ)) (first past : ℕ)
    → Walked tests look takes rows files old now bits left → left ≡ (first, past) ∷ rest
    → (length bits ≤ first) × (first < past) × (past ≤ length rows)
run_ahead tests look takes rows files old now bits left rest first past w e =
    let run = first_run (length bits) (drop (length bits) rows) first past rest (sym w.ahead ∙ e) in
    let fits = run_fits rows (length bits) run.gap run.many run.later w.within run.split in
    (omega (arith, run.begins), omega (arith, run.ends, run.some), omega (arith, run.begins, run.ends, fits))

-- a read of a part of a run is of candidates
part_is_block : (look : ℕ × ℕ → Look) (rows : List Bool) (seen gap many : ℕ) (later : List Bool) (first past : ℕ) (read : Look)
    → drop seen rows ≡ replicate gap false ++ (replicate many true ++ later) → first ≡ seen + gap → past ≡ first + many
    → IsPartLook look first past read → IsBlockLook look rows read
part_is_block look rows seen gap many later first past read split begins ends part = record {
  first = part.first;
  past = part.past;
  some = part.some;
  few = part.few;
  is = part.is;
  within = λ row low high. run_true rows seen gap many later row split (omega (arith, begins, part.begins, low)) (omega (arith, begins, ends, part.ends, high));
}

-- the reads of a run, behind those of the runs before it
pub run_reads : (tests : List Bool → Type 0) (look : ℕ × ℕ → Look) (takes : ℕ × ℕ → Bool) (rows : List Bool) (files : Option Files) (old mid now : Option (List Look)) (bits : List Bool) (left rest : List (ℕ × ℕ)) (first past : ℕ)
    → Walked tests look takes rows files old mid bits left → left ≡ (first, past) ∷ rest → AddsOnly (IsPartLook look first past) mid now
    → AddsOnly (IsBlockLook look rows) old now
run_reads tests look takes rows files old mid now bits left rest first past w e reads =
    let seen : ℕ = length bits in
    let run = first_run seen (drop seen rows) first past rest (sym w.ahead ∙ e) in
    AddsOnly-trans (IsBlockLook look rows) old mid now w.reads
    (AddsOnly-weaken (IsPartLook look first past) (IsBlockLook look rows) mid now
    (λ read part. part_is_block look rows seen run.gap run.many run.later first past read run.split run.begins run.ends part) reads)

pub walk_goes_on : (tests : List Bool → Type 0) (look : ℕ × ℕ → Look) (takes : ℕ × ℕ → Bool) (rows : List Bool) (files : Option Files) (old mid now : Option (List Look)) (bits skipped more : List Bool) (left rest : List (ℕ × ℕ)) (first past : ℕ)
    → Walked tests look takes rows files old mid bits left → left ≡ (first, past) ∷ rest
    → skipped ≡ bits ++ replicate (first - length bits) false → length more ≡ past
    → ((all : List Bool) → tests all → more ≡ skipped ++ take (past - first) (drop first all))
    → AddsOnly (IsPartLook look first past) mid now
    → AddsAll files mid now (reads_of look takes (blocks_of_run (first, past)))
    → Walked tests look takes rows files old now more rest
walk_goes_on tests look takes rows files old mid now bits skipped more left rest first past w e skips long tested reads each =
    let seen : ℕ = length bits in
    let run = first_run seen (drop seen rows) first past rest (sym w.ahead ∙ e) in
    let fits = run_fits rows seen run.gap run.many run.later w.within run.split in
    let gap : first - seen ≡ run.gap = omega (arith, run.begins) in
    let many : past - first ≡ run.many = omega (arith, run.ends) in
    let at : seen + run.gap ≡ first = sym run.begins in
    let end : seen + run.gap + run.many ≡ length more = omega (arith, run.begins, run.ends, long) in
    let behind : drop (length more) rows ≡ run.later = ap (λ n. drop n rows) (sym end) ∙ left_behind rows seen run.gap run.many run.later run.split in
    record {
      within = omega (arith, end, fits);
      ahead = run.left ∙ ap (λ n. runs_from n run.later []) (sym long) ∙ ap (λ l. runs_from (length more) l []) (sym behind);
      found = λ all has same.
          tested all has
          ∙ ap (λ l. l ++ take (past - first) (drop first all)) skips
          ∙ ap (λ n. (bits ++ replicate n false) ++ take (past - first) (drop first all)) gap
          ∙ ap (λ n. (bits ++ replicate run.gap false) ++ take n (drop first all)) many
          ∙ ap (λ n. (bits ++ replicate run.gap false) ++ take run.many (drop n all)) (sym at)
          ∙ found_more rows all bits seen run.gap run.many run.later same w.within run.split (w.found all has same)
          ∙ ap (λ n. take n (each_place and rows all)) end;
      reads = run_reads tests look takes rows files old mid now bits left rest first past w e reads;
      done = w.done ++ (first, past) ∷ [];
      runs = append_assoc w.done ((first, past) ∷ []) rest ∙ ap (λ l. w.done ++ l) (sym e) ∙ w.runs;
      each = adds_blocks files old mid now look takes (flat_map blocks_of_run w.done) (blocks_of_run (first, past)) (flat_map blocks_of_run (w.done ++ (first, past) ∷ []))
          (flat_map-append blocks_of_run w.done ((first, past) ∷ []) ∙ ap (λ l. flat_map blocks_of_run w.done ++ l) (append-nil (blocks_of_run (first, past)))) w.each each;
    }

-- ---- once no run is left

-- The rows are found, and all blocks were read.
pub record Ended (tests : List Bool → Type 0) (look : ℕ × ℕ → Look) (takes : ℕ × ℕ → Bool) (rows : List Bool) (files : Option Files) (old now : Option (List Look)) (result : List Bool) : Type 0 where
  pub long : length result ≡ length rows
  pub found : (all : List Bool) → tests all → length all ≡ length rows → result ≡ each_place and rows all
  pub each : AddsAll files old now (reads_of look takes (blocks_of rows))

pub walk_ends : (tests : List Bool → Type 0) (look : ℕ × ℕ → Look) (takes : ℕ × ℕ → Bool) (rows : List Bool) (files : Option Files) (old now : Option (List Look)) (bits result : List Bool) (left : List (ℕ × ℕ))
    → Walked tests look takes rows files old now bits left → left ≡ [] → result ≡ bits ++ replicate (length rows - length bits) false
    → Ended tests look takes rows files old now result
walk_ends tests look takes rows files old now bits result left w e is =
    let seen : ℕ = length bits in
    let none : drop seen rows ≡ replicate (length (drop seen rows)) false = no_run seen (drop seen rows) (sym w.ahead ∙ e) in
    let all_runs : w.done ≡ runs_of rows = sym (append-nil w.done) ∙ ap (λ l. w.done ++ l) (sym e) ∙ w.runs in
    record {
      long = ap length is ∙ length-append bits (replicate (length rows - seen) false) ∙ ap (λ n. seen + n) (length-replicate (length rows - seen) false) ∙ omega (arith, w.within);
      found = λ all has same. is ∙ found_last rows all bits seen same none (w.found all has same);
      each = subst (λ (rs : List (ℕ × ℕ)). AddsAll files old now (reads_of look takes (flat_map blocks_of_run rs))) all_runs w.each;
    }

-- ---- within a run

pub part_grows : (look : ℕ × ℕ → Look) (first past at end : ℕ) (read : Look) → first ≤ at → at < end → end ≤ at + 4096 → end ≤ past
    → read ≡ look (at, end) → IsPartLook look first past read
part_grows look first past at end read low some few high is = record { first = at; past = end; some = some; few = few; is = is; begins = low; ends = high }

pub takes_none : (bits all : List Bool) (first : ℕ) → bits ≡ bits ++ take (first - first) (drop first all)
takes_none bits all first =
    let zero : first - first ≡ 0 = omega arith in
    sym (append-nil bits) ∙ sym (ap (λ n. bits ++ take n (drop first all)) zero)
