-- Opening files that are as they have to be.
use Rattle.std.proofs.Common.{◌≡◌, ◌*◌, ℤ, ◌≤◌, ◌==◌, ℕ, Bool, List, [], length, Option, Some, None, Result, Ok, Err, IfSome, sym, ap, subst, ◌∙◌, append-nil, arith, if◌then◌else◌}
use Rattle.std.proofs.lemmas.Bool.{eq-eqb, le-ltb}
use Rattle.fb_outside.specs.Files.{Files, file_at, told_at}
use Rattle.wah_words.specs.Limits.{most_bits}
use Rattle.wah_words.specs.Bytes.{spelling, vector_at}
use Rattle.wah_words.proofs.BytesLemmas.{vector_again}
use Rattle.fb_types.specs.declared.types.ColType.{ColType}
use Rattle.column_file.specs.Values.{values_bytes, width_in}
use Rattle.column_file.proofs.ValuesLemmas.{length-values_bytes}
use Rattle.answers.specs.Answers.{Answers}
use Rattle.column_file.specs.Opening.{to_its_end, mask_in, column_in, told_by_files}
use Rattle.column_file.specs.declared.fault.ColFault.{ColFault}
use Rattle.column_file.specs.declared.fault.ColFault.TheVariants.{WrongLength, MaskTrailing, MaskLength}

-- a mask of so many rows is the mask that its bytes are
pub spelled_to_end : (rows : ℕ) (bits : List Bool) → length bits ≡ rows → length bits ≤ most_bits
    → to_its_end rows (length (spelling bits)) (vector_at (spelling bits)) ≡ Ok bits
spelled_to_end rows bits is limit =
    let at : vector_at (spelling bits) ≡ Ok (bits, length (spelling bits)) = ap vector_at (sym (append-nil (spelling bits))) ∙ vector_again bits [] limit in
    ap (to_its_end rows (length (spelling bits))) at
    ∙ ap (λ b. if b then Err MaskTrailing else if length bits == rows then Ok bits else Err (MaskLength rows (length bits))) (le-ltb (length (spelling bits)) (length (spelling bits)) (omega arith))
    ∙ ap (λ b. if b then Ok bits else Err (MaskLength rows (length bits))) (eq-eqb (length bits) rows is)

-- the bytes of a file that are told are those that were read
pub told_bytes : (files : Option Files) (name bytes other : List ℕ) → IfSome files (λ m. Some bytes ≡ file_at m name) → told_at files name ≡ Some other → bytes ≡ other
told_bytes None name bytes other given told = absurd (cc)
told_bytes (Some m) name bytes other given told = let both : Some bytes ≡ Some other = given ∙ told in cc

-- what is spelled as a mask of so many rows is opened as that mask
pub opens_spelled : (rows : ℕ) (bits : List Bool) (bytes : List ℕ) (opened : Result (List Bool) ColFault) → length bits ≡ rows → length bits ≤ most_bits → bytes ≡ spelling bits
    → Answers told_by_files opened (to_its_end rows (length bytes) (vector_at bytes)) → Answers told_by_files opened (Ok bits)
opens_spelled rows bits bytes opened is limit spelled h =
    subst (Answers told_by_files opened) (ap (λ b. to_its_end rows (length b) (vector_at b)) spelled ∙ spelled_to_end rows bits is limit) h

-- the two files of a column
pub column_opens : (ty : ColType) (values : List ℤ) (bits : List Bool) → length bits ≤ most_bits → length bits ≡ length values
    → column_in (width_in ty) (length values) (Some (values_bytes ty values)) (Some (spelling bits)) ≡ Ok bits
column_opens ty values bits limit is =
    let rows = length values in
    let mask = mask_in rows (Some (spelling bits)) in
    let size = length-values_bytes ty values in
    ap (λ b. if b then mask else Err (WrongLength (rows * width_in ty) (length (values_bytes ty values)))) (eq-eqb (length (values_bytes ty values)) (rows * width_in ty) size)
    ∙ spelled_to_end rows bits is limit
