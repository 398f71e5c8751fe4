-- Lemmas on the records of a seed.
use Rattle.std.proofs.Common.{◌/◌, ◌%◌, ◌-◌, ◌∙◌, ap, sym, codes, decimal, ◌≡◌, ◌<◌, ◌+◌, ◌^◌, ℕ, zero, suc, Some, List, [], ◌∷◌, ◌++◌, length, slice_get, refl, arith, rules, append_assoc}
use Rattle.std.proofs.lemmas.Fmt.{decimal_digit}
use Rattle.fb_types.specs.Cells.{CellFits, RecordFits}
use Rattle.fb_types.specs.declared.cells.Cell.{Cell}
use Rattle.fb_types.specs.declared.cells.Cell.TheVariants.{Word}
use Rattle.fb_types.specs.declared.schemas.Column.{Column}
use Rattle.fb_types.specs.declared.types.ColType.TheVariants.{Category, Long}
use Rattle.generator.specs.Generated.{generated, generated_columns, number_after, number_at, record_of, third_cell}

pub third_fits : (x : ℕ) → CellFits (third_cell x) Long
third_fits x = search rules

word_fits : (d : ℕ) → d < 10 → CellFits (Word (codes "w" ++ decimal d)) Category
word_fits d small = rw (decimal_digit d small) search (rules, arith)

pub record_fits : (x : ℕ) → RecordFits (record_of x) generated_columns
unfolding record_of generated_columns
record_fits x = search (rules, arith, word_fits (x / 2 ^ 43 % 7) (omega arith), third_fits x)

pub generated-length : (rows seed : ℕ) → length (generated rows seed) ≡ rows
unfolding generated
generated-length zero seed = refl
generated-length (suc rows) seed = ap suc (generated-length rows (number_after seed))

-- a step at the end is a step at the start
pub number_at-suc : (k seed : ℕ) → number_at (suc k) seed ≡ number_at k (number_after seed)
number_at-suc zero seed = refl
number_at-suc (suc k) seed = ap number_after (number_at-suc k seed)

pub generated-at : (rows seed k : ℕ) → k < rows → slice_get (generated rows seed) k ≡ Some (record_of (number_at (suc k) seed))
unfolding generated
generated-at zero seed k within = search arith
generated-at (suc rows) seed zero within = refl
generated-at (suc rows) seed (suc k) within =
    generated-at rows (number_after seed) k (omega (arith, within)) ∙ ap (λ x. Some (record_of x)) (sym (number_at-suc (suc k) seed))

generated-left : (left : ℕ) (seed n : ℕ) → n ≡ suc left → generated n seed ≡ record_of (number_after seed) ∷ generated left (number_after seed)
unfolding generated
generated-left left seed n is = rw is refl

-- the first of the records that are left, where some are
pub generated-more : (rows counter seed : ℕ) → counter < rows
    → generated (rows - counter) seed ≡ record_of (number_after seed) ∷ generated (rows - (counter + 1)) (number_after seed)
generated-more rows counter seed within = generated-left (rows - (counter + 1)) seed (rows - counter) (omega (arith, within))

pub generated-none : (seed : ℕ) → generated 0 seed ≡ []
unfolding generated
generated-none seed = refl

-- a record fits, also where schema and cells stand for it
pub fits_by : (cells : List Cell) (columns : List Column) (x : ℕ) → cells ≡ record_of x → columns ≡ generated_columns → RecordFits cells columns
fits_by cells columns x is schema = rw is (rw schema (record_fits x))

-- the front of the records with one more, and those that are left
pub moved : (front : List (List Cell)) (cells : List Cell) (rows counter x y : ℕ) (all : List (List Cell)) → counter < rows → cells ≡ record_of y
    → y ≡ number_after x → front ++ generated (rows - counter) x ≡ all → (front ++ cells ∷ []) ++ generated (rows - (counter + 1)) y ≡ all
moved front cells rows counter x y all within is after whole =
    rw is (rw after (append_assoc front (record_of (number_after x) ∷ []) (generated (rows - (counter + 1)) (number_after x))
    ∙ (ap (λ more. front ++ more) (sym (generated-more rows counter x within)) ∙ whole)))
