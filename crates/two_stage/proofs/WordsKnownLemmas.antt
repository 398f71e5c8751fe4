-- What a condition on the words of a category asks of its bins, as a condition on their codes.
use Rattle.std.proofs.Common.{◌≡◌, ℕ, ◌+◌, ◌*◌, ◌<◌, ◌≤◌, ℤ, pos, ◌≤ℤ◌, Bool, true, false, cond, List, [], ◌∷◌, All, get_or, length, map, Option, Some, None, IsSome, IfSome, refl, sym, ap, subst, ◌∙◌, arith}
use Rattle.std.specs.List.{find, flat_map, range_with_len}
use Rattle.std.proofs.lemmas.List.{ext_get_or}
use Rattle.std.proofs.lemmas.List.Elements.{All-head, All-tail}
use Rattle.std.proofs.lemmas.List.FromFn.{get_or-map-range_with_len, length-map-range_with_len}
use Rattle.fb_outside.specs.Files.{Files}
use Rattle.fb_outside.specs.Reads.{Look}
use Rattle.fb_types.specs.declared.types.ColType.TheVariants.{Category}
use Rattle.fb_types.specs.Types.{width_of}
use Rattle.wah_logic.specs.Logic.{groups_and_rest}
use Rattle.index_spec.specs.declared.spec.Spec.{Spec}
use Rattle.index_spec.specs.Members.{needed}
use Rattle.index_file.specs.Places.{bitmap_look}
use Rattle.binning.specs.declared.against_bins.Three.{Three}
use Rattle.binning.specs.declared.against_bins.Three.TheVariants.{No}
use Rattle.binning.specs.declared.gathering.Bin.{Bin}
use Rattle.binning.specs.declared.span_lists.Span.{Span}
use Rattle.three_valued.specs.Rows.{each_row}
use Rattle.where_grammar.specs.declared.clause.Atom.{Atom}
use Rattle.where_plan.specs.SpansOf.{AreSpansOf, code_meets, code_range}
use Rattle.where_plan.specs.declared.plan.PlanAtom.TheVariants as atom
use Rattle.part_meta.specs.FileNames.{index_name}
use Rattle.stages.specs.Looks.{AddsLooks}
use Rattle.world.specs.Cells.{dictionary_of}
use Rattle.bin_answers.specs.BinRuns.{runs_of}
use Rattle.bin_answers.specs.Bins.{said_by}
use Rattle.part_meaning.specs.Bitmaps.{bins_say, bitmap_looks, index_places, looks_under, needed_of, needed_under, work_of}
use Rattle.part_meaning.specs.Columns.{PartColumn, bins_in}
use Rattle.part_meaning.specs.Files.{is_bitmap_of, is_free_of}
use Rattle.part_meaning.specs.Known.{bin_says, known, of_codes}
use Rattle.part_meaning.proofs.RangeLemmas.{against_words}
use Rattle.two_stage.specs.ColumnFiles.{HasColumn}
use Rattle.two_stage.specs.Placed.{Placed}

module _ (files : Option Files) (p : Placed) (column : PartColumn) (has : HasColumn files p column) (ty : p.column.ty ≡ Category)
    (condition : Atom) (words : List (List ℕ)) (same : words ≡ dictionary_of column.cells) (spans : List Span)
    (are : AreSpansOf (code_range words) (code_meets condition words) spans) (col : ℕ) where
  abbrev IsCodeBin : Bin → Type 0
  IsCodeBin bin = (pos 1 ≤ℤ bin.least) × (bin.least ≤ℤ bin.greatest) × (bin.greatest ≤ℤ pos (length (dictionary_of column.cells)))

  bin_same : (bin : Bin) → IsCodeBin bin → bin_says column (atom.Word col condition) bin ≡ bin_says column (atom.Whole col spans) bin
  unfolding bin_says
  bin_same bin h =
      let its : AreSpansOf (code_range (dictionary_of column.cells)) (code_meets condition (dictionary_of column.cells)) spans
      = subst (λ (l : List (List ℕ)). AreSpansOf (code_range l) (code_meets condition l) spans) same are in
      ap (λ o. of_codes o (code_meets condition (dictionary_of column.cells)) bin) (ap width_of (has.typed ∙ ty))
      ∙ sym (against_words condition (dictionary_of column.cells) spans bin.least bin.greatest its h.0 h.1 h.2)

  each_same : (bins : List Bin) → All IsCodeBin bins → map (bin_says column (atom.Word col condition)) bins ≡ map (bin_says column (atom.Whole col spans)) bins
  each_same [] h = refl
  each_same (bin ∷ bins) h =
      ap (λ a. a ∷ map (bin_says column (atom.Word col condition)) bins) (bin_same bin (All-head IsCodeBin bin bins h))
      ∙ ap (λ l. bin_says column (atom.Whole col spans) bin ∷ l) (each_same bins (All-tail IsCodeBin bin bins h))

  say_same : bins_say column (atom.Word col condition) ≡ bins_say column (atom.Whole col spans)
  unfolding bins_say
  say_same = each_same (bins_in column) (has.codes ty)

  found_same : (f : Bin → Bool) (bins : List Bin) → All IsCodeBin bins
      → said_by (bin_says column (atom.Word col condition)) (find f bins) ≡ said_by (bin_says column (atom.Whole col spans)) (find f bins)
  found_same f [] h = refl
  found_same f (bin ∷ bins) h = by (f bin) (found_same f bins (All-tail IsCodeBin bin bins h))
    where
      by : (b : Bool) → said_by (bin_says column (atom.Word col condition)) (find f bins) ≡ said_by (bin_says column (atom.Whole col spans)) (find f bins)
          → said_by (bin_says column (atom.Word col condition)) (cond b (Some bin) (find f bins)) ≡ said_by (bin_says column (atom.Whole col spans)) (cond b (Some bin) (find f bins))
      by true more = bin_same bin (All-head IsCodeBin bin bins h)
      by false more = more

  pub words_known : (row : ℕ) → known column (atom.Whole col spans) row ≡ known column (atom.Word col condition) row
  unfolding known
  words_known row = sym (found_same (λ bin. get_or bin.rows row false) (bins_in column) (has.codes ty))

  pub words_rows : (answers : List Three) → answers ≡ each_row p.rows (known column (atom.Whole col spans)) → answers ≡ each_row p.rows (known column (atom.Word col condition))
  words_rows answers said =
      said ∙ ext_get_or No _ _ (length-map-range_with_len (known column (atom.Whole col spans)) 0 p.rows ∙ sym (length-map-range_with_len (known column (atom.Word col condition)) 0 p.rows))
      (λ row below.
      let within : row < p.rows = omega (arith, below, length-map-range_with_len (known column (atom.Whole col spans)) 0 p.rows) in
      get_or-map-range_with_len (known column (atom.Whole col spans)) 0 p.rows row row No within (omega arith) ∙ words_known row
      ∙ sym (get_or-map-range_with_len (known column (atom.Word col condition)) 0 p.rows row row No within (omega arith)))

  needed_same : needed_of column (atom.Whole col spans) ≡ needed_of column (atom.Word col condition)
  unfolding needed_of
  needed_same = by column.spec
    where
      by : (o : Option Spec) → needed_under o column (atom.Whole col spans) ≡ needed_under o column (atom.Word col condition)
      by None = refl
      by (Some spec) = ap (λ said. flat_map (λ r. needed spec.encoding (length (bins_in column)) r.first r.past) (runs_of said)) (sym say_same)

  pub words_looks : bitmap_looks p.dir p.number column (atom.Whole col spans) ≡ bitmap_looks p.dir p.number column (atom.Word col condition)
  unfolding bitmap_looks
  words_looks = by column.spec
    where
      by : (o : Option Spec) → looks_under o (index_name p.dir p.number column.name) column (atom.Whole col spans) ≡ looks_under o (index_name p.dir p.number column.name) column (atom.Word col condition)
      by None = refl
      by (Some spec) = ap (map (bitmap_look (index_name p.dir p.number column.name) (index_places spec column))) needed_same

  pub words_work : work_of column (atom.Whole col spans) ≡ work_of column (atom.Word col condition)
  unfolding work_of
  words_work =
      ap (λ (l : List ℕ). 4 * (length l + length (runs_of (bins_say column (atom.Whole col spans))))) needed_same
      ∙ ap (λ said. 4 * (length (needed_of column (atom.Word col condition)) + length (runs_of said))) (sym say_same)

  -- the reads and the steps of the one are those of the other
  pub words_fetched : (old new : Option (List Look)) (done : Type 0)
      → AddsLooks old new (is_free_of p.dir p.number column) (is_bitmap_of p.dir p.number column) (bitmap_looks p.dir p.number column (atom.Whole col spans)) done
      → AddsLooks old new (is_free_of p.dir p.number column) (is_bitmap_of p.dir p.number column) (bitmap_looks p.dir p.number column (atom.Word col condition)) done
  words_fetched old new done h =
      subst (λ (l : List Look). AddsLooks old new (is_free_of p.dir p.number column) (is_bitmap_of p.dir p.number column) l done) words_looks h

  pub words_steps : (old new : ℕ) → new ≤ old + 2 * groups_and_rest p.rows * work_of column (atom.Whole col spans)
      → new ≤ old + 2 * groups_and_rest p.rows * work_of column (atom.Word col condition)
  words_steps old new h = subst (λ (w : ℕ). new ≤ old + 2 * groups_and_rest p.rows * w) words_work h
