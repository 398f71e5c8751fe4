-- The numbers of a column, block by block.
use Rattle.std.proofs.Common.{◌≡◌, ◌+◌, ℕ, ℤ, Bool, true, false, List, [], ◌∷◌, ◌++◌, Option, Some, None, IsSome, length, take, drop, refl, sym, ap, subst, ◌∙◌, arith}
use Rattle.std.proofs.lemmas.Int.{ints}
use Rattle.std.specs.List.{All, AllByRecursion}
use Rattle.std.proofs.Math.Seq.{take-add, take-append_seam}
use Rattle.std.proofs.lemmas.List.{length-append}
use Rattle.std.proofs.lemmas.List.Elements.{All-from_recursion, recursion_from_All}
use Rattle.fb_types.specs.declared.types.ColType.{ColType}
use Rattle.fb_types.specs.declared.types.ColType.TheVariants.{Byte, UByte, Short, UShort, Int, UInt, Long, ULong, Category, Text}
use Rattle.fb_types.specs.Types.{width_of}
use Rattle.column_file.specs.Values.{ValueFits}
use Rattle.column_file.specs.declared.column.ColumnRef.{ColumnRef}
use Rattle.fb_outside.specs.Files.{Files}
use Rattle.binning.specs.Bins.{cells}
use Rattle.binning.specs.Spans.{IsInRange}
use Rattle.index_build.specs.Index.{AreRead, HasNumbers}

pub taken_whole : (xs ys : List ℤ) (n : ℕ) → length xs ≡ n → take n (xs ++ ys) ≡ xs
taken_whole xs ys n e = ap (λ k. take k (xs ++ ys)) (sym e) ∙ take-append_seam xs ys

-- ---- numbers of a type are in the range of keys

in_range : (ty : ColType) (v : ℤ) → IsSome (width_of ty) → ValueFits v ty → IsInRange v
in_range Byte v some h = (omega (arith, ints, h.0), omega (arith, ints, h.1))
in_range UByte v some h = (omega (arith, ints, h.0), omega (arith, ints, h.1))
in_range Short v some h = (omega (arith, ints, h.0), omega (arith, ints, h.1))
in_range UShort v some h = (omega (arith, ints, h.0), omega (arith, ints, h.1))
in_range Int v some h = (omega (arith, ints, h.0), omega (arith, ints, h.1))
in_range UInt v some h = (omega (arith, ints, h.0), omega (arith, ints, h.1))
in_range Long v some h = (omega (arith, ints, h.0), omega (arith, ints, h.1))
in_range ULong v some h = (omega (arith, ints, h.0), omega (arith, ints, h.1))
in_range Category v some h = (omega (arith, ints, h.0), omega (arith, ints, h.1))
in_range Text v some h = let bad : false ≡ true = some in absurd (cc)

each_in_range : (ty : ColType) (vs : List ℤ) → IsSome (width_of ty) → AllByRecursion (λ v. ValueFits v ty) vs → AllByRecursion IsInRange vs
each_in_range ty [] some h = tt
each_in_range ty (v ∷ vs) some h = (in_range ty v some h.0, each_in_range ty vs some h.1)

pub all_in_range : (ty : ColType) (vs : List ℤ) → IsSome (width_of ty) → All (λ v. ValueFits v ty) vs → AllByRecursion IsInRange vs
all_in_range ty vs some h = each_in_range ty vs some (recursion_from_All (λ v. ValueFits v ty) vs h)

-- ---- a block behind those before it

cells_joined : (mask more : List Bool) (numbers others : List ℤ) → length mask ≡ length numbers
    → cells mask numbers ++ cells more others ≡ cells (mask ++ more) (numbers ++ others)
cells_joined [] more [] others e = refl
cells_joined [] more (v ∷ vs) others e = absurd (omega arith)
cells_joined (true ∷ mask) more [] others e = absurd (omega arith)
cells_joined (false ∷ mask) more [] others e = absurd (omega arith)
cells_joined (true ∷ mask) more (v ∷ vs) others e = ap (λ cs. Some v ∷ cs) (cells_joined mask more vs others (omega arith))
cells_joined (false ∷ mask) more (v ∷ vs) others e = ap (λ cs. None ∷ cs) (cells_joined mask more vs others (omega arith))

pub cells_more : (mask : List Bool) (numbers block : List ℤ) (at n : ℕ) → length (take at mask) ≡ length numbers
    → cells (take at mask) numbers ++ cells (take n (drop at mask)) block ≡ cells (take (at + n) mask) (numbers ++ block)
cells_more mask numbers block at n e =
    cells_joined (take at mask) (take n (drop at mask)) numbers block e ∙ sym (ap (λ m. cells m (numbers ++ block)) (take-add at n mask))

-- what fits, and then more that does
pub all_fit : (ty : ColType) (vs more : List ℤ) → All (λ v. ValueFits v ty) vs → All (λ v. ValueFits v ty) more → All (λ v. ValueFits v ty) (vs ++ more)
all_fit ty vs more h k =
    All-from_recursion (λ v. ValueFits v ty) (vs ++ more)
    (joined vs (recursion_from_All (λ v. ValueFits v ty) vs h))
  where
    joined : (xs : List ℤ) → AllByRecursion (λ v. ValueFits v ty) xs → AllByRecursion (λ v. ValueFits v ty) (xs ++ more)
    joined [] p = recursion_from_All (λ v. ValueFits v ty) more k
    joined (x ∷ xs) p = (p.0, joined xs p.1)

-- ---- what was read, and then a block

pub none_read : (files : Option Files) (column : ColumnRef) → AreRead files column 0 []
none_read files column = record { number = refl; fit = All-from_recursion (λ v. ValueFits v column.ty) [] tt; told = λ all has. refl }

pub more_read : (old new : Option Files) (column : ColumnRef) (at n : ℕ) (numbers block : List ℤ) → new ≡ old → AreRead old column at numbers
    → length block ≡ n → All (λ v. ValueFits v column.ty) block → ((all : List ℤ) → HasNumbers new column all → block ≡ take n (drop at all))
    → AreRead old column (at + n) (numbers ++ block)
more_read old new column at n numbers block kept read size fit told =
    record {
      number = length-append numbers block ∙ omega (arith, read.number, size);
      fit = all_fit column.ty numbers block read.fit fit;
      told = λ all has.
          let now = subst (λ (files : Option Files). HasNumbers files column all) (sym kept) has in
          ap (λ xs. xs ++ block) (read.told all has) ∙ ap (λ xs. take at all ++ xs) (told all now) ∙ sym (take-add at n all);
    }
