-- Numbers and their bytes, both ways.
use Rattle.std.proofs.Common.{◌≡◌, inl, inr, ◌+◌, ◌*◌, ◌/◌, ◌<◌, ◌≤◌, ℕ, zero, suc, ℤ, None, Some, IsSome, unwrap_or, List, [], ◌∷◌, ◌++◌, All, map, length, take, drop, refl, sym, ap, subst, ◌∙◌, arith, lit<, length-append, length-drop}
use Rattle.std.proofs.Math.Nat.{mul-div_cancel}
use Rattle.std.proofs.Math.Seq.{take-append_seam, drop-append_seam, take-append-add, drop-nil, take-nil}
use Rattle.std.proofs.lemmas.List.{take_all, drop-drop, length-take-le, take-append-drop, get_or-drop, get_or-take, get_or_past, length-take}
use Rattle.std.proofs.lemmas.Bool.{cases_lt}
use Rattle.std.proofs.lemmas.List.Elements.{All-from_recursion, recursion_from_All}
use Rattle.std.specs.List.{AllByRecursion, flat_map}
use Rattle.std.specs.Simd.{first_chunks}
use Rattle.column_file.proofs.NumberLemmas.{AreBytes, AreBytes-take, AreBytes-drop, number_again, bytes_again, number_fits, length-number_bytes}
use Rattle.fb_types.specs.Types.{width_of}
use Rattle.fb_types.specs.declared.types.ColType.{ColType}
use Rattle.fb_types.specs.declared.types.ColType.TheVariants.{Byte, UByte, Short, UShort, Int, UInt, Long, ULong, Category, Text}
use Rattle.column_file.specs.Values.{ValueFits, number_bytes, values_bytes, width_in, number_of, numbers_of}

-- ---- the loop that reads

pub width_positive : (ty : ColType) (w : ℕ) → width_of ty ≡ Some w → 0 < w
width_positive Byte w h = let e : 1 ≡ w = cc in omega arith
width_positive UByte w h = let e : 1 ≡ w = cc in omega arith
width_positive Short w h = let e : 2 ≡ w = cc in omega arith
width_positive UShort w h = let e : 2 ≡ w = cc in omega arith
width_positive Int w h = let e : 4 ≡ w = cc in omega arith
width_positive UInt w h = let e : 4 ≡ w = cc in omega arith
width_positive Long w h = let e : 8 ≡ w = cc in omega arith
width_positive ULong w h = let e : 8 ≡ w = cc in omega arith
width_positive Category w h = let e : 4 ≡ w = cc in omega arith
width_positive Text w h = absurd (let e : None ≡ Some w = h in cc)

pub width_known : (ty : ColType) (w : ℕ) → width_of ty ≡ Some w → width_in ty ≡ w
width_known ty w h = ap (λ o. unwrap_or o 0) h

-- a number was read of each piece
pub all_read : (ty : ColType) (w n i : ℕ) (out : List ℤ) (bytes : List ℕ) (pieces : List (List ℕ)) → width_of ty ≡ Some w → length bytes ≡ n * w
    → pieces ≡ first_chunks w (length bytes / w) bytes → length pieces ≡ length bytes / w → length out ≡ n → n ≤ i
    → take i out ≡ map (number_of ty) (take i pieces) → out ≡ numbers_of ty n bytes
unfolding numbers_of
all_read ty w n i out bytes pieces wide size cut count len past read =
    let some : 0 < w = width_positive ty w wide in
    let times : length bytes / w ≡ n = ap (λ k. k / w) size ∙ mul-div_cancel n some in
    let whole : take i pieces ≡ pieces = take_all i pieces (omega arith) in
    let all : take i out ≡ out = take_all i out (omega arith) in
    let width = width_known ty w wide in
    sym all ∙ read ∙ ap (map (number_of ty)) (whole ∙ cut ∙ ap (λ k. first_chunks w k bytes) times ∙ ap (λ k. first_chunks k n bytes) (sym width))

-- ---- numbers and bytes, both ways

-- the bytes of numbers
pub values_cons : (ty : ColType) (v : ℤ) (vs : List ℤ) → values_bytes ty (v ∷ vs) ≡ number_bytes ty v ++ values_bytes ty vs
unfolding values_bytes
values_cons ty v vs = refl

values_nil : (ty : ColType) → values_bytes ty [] ≡ []
unfolding values_bytes
values_nil ty = refl

numbers_more : (ty : ColType) (n : ℕ) (bytes : List ℕ)
    → numbers_of ty (suc n) bytes ≡ number_of ty (take (width_in ty) bytes) ∷ numbers_of ty n (drop (width_in ty) bytes)
unfolding numbers_of
numbers_more ty n bytes = refl

numbers_none : (ty : ColType) (bytes : List ℕ) → numbers_of ty 0 bytes ≡ []
unfolding numbers_of
numbers_none ty bytes = refl

pub length-values_bytes : (ty : ColType) (vs : List ℤ) → length (values_bytes ty vs) ≡ length vs * width_in ty
length-values_bytes ty [] = let none : 0 ≡ 0 * width_in ty = omega arith in ap length (values_nil ty) ∙ none
length-values_bytes ty (v ∷ vs) =
    ap length (values_cons ty v vs) ∙ length-append (number_bytes ty v) (values_bytes ty vs)
    ∙ omega (arith, length-number_bytes ty v, length-values_bytes ty vs)

-- a number's bytes before others
front_of : (ty : ColType) (v : ℤ) (more : List ℕ) → take (width_in ty) (number_bytes ty v ++ more) ≡ number_bytes ty v
front_of ty v more = ap (λ n. take n (number_bytes ty v ++ more)) (sym (length-number_bytes ty v)) ∙ take-append_seam (number_bytes ty v) more

rest_of : (ty : ColType) (v : ℤ) (more : List ℕ) → drop (width_in ty) (number_bytes ty v ++ more) ≡ more
rest_of ty v more = ap (λ n. drop n (number_bytes ty v ++ more)) (sym (length-number_bytes ty v)) ∙ drop-append_seam (number_bytes ty v) more

-- numbers that the type has are read back from their bytes
values_read : (ty : ColType) (vs : List ℤ) → IsSome (width_of ty) → AllByRecursion (λ v. ValueFits v ty) vs → numbers_of ty (length vs) (values_bytes ty vs) ≡ vs
values_read ty [] some h = numbers_none ty (values_bytes ty [])
values_read ty (v ∷ vs) some h =
    let b = number_bytes ty v in
    let more = values_bytes ty vs in
    numbers_more ty (length vs) (values_bytes ty (v ∷ vs))
    ∙ ap (λ l. number_of ty (take (width_in ty) l) ∷ numbers_of ty (length vs) (drop (width_in ty) l)) (values_cons ty v vs)
    ∙ ap (λ l. number_of ty l ∷ numbers_of ty (length vs) (drop (width_in ty) (b ++ more))) (front_of ty v more)
    ∙ ap (λ l. number_of ty b ∷ numbers_of ty (length vs) l) (rest_of ty v more)
    ∙ ap (λ x. x ∷ numbers_of ty (length vs) more) (number_again ty v some h.0)
    ∙ ap (λ l. v ∷ l) (values_read ty vs some h.1)

pub values_again : (ty : ColType) (vs : List ℤ) → IsSome (width_of ty) → All (λ v. ValueFits v ty) vs → numbers_of ty (length vs) (values_bytes ty vs) ≡ vs
values_again ty vs some h = values_read ty vs some (recursion_from_All (λ v. ValueFits v ty) vs h)

-- bytes are written back from the numbers that they spell
pub numbers_again : (ty : ColType) (n : ℕ) (bytes : List ℕ) → IsSome (width_of ty) → length bytes ≡ n * width_in ty → AreBytes bytes → values_bytes ty (numbers_of ty n bytes) ≡ bytes
numbers_again ty zero [] some size h = ap (values_bytes ty) (numbers_none ty []) ∙ values_nil ty
numbers_again ty zero (b ∷ bs) some size h = absurd (omega arith)
numbers_again ty (suc n) bytes some size h =
    let w = width_in ty in
    let front : length (take w bytes) ≡ w = length-take-le w bytes (omega arith) in
    let rest : length (drop w bytes) ≡ n * w = omega (arith, length-drop w bytes) in
    ap (values_bytes ty) (numbers_more ty n bytes) ∙ values_cons ty (number_of ty (take w bytes)) (numbers_of ty n (drop w bytes))
    ∙ ap (λ l. l ++ values_bytes ty (numbers_of ty n (drop w bytes))) (bytes_again ty (take w bytes) some front (AreBytes-take w bytes h))
    ∙ ap (λ l. take w bytes ++ l) (numbers_again ty n (drop w bytes) some rest (AreBytes-drop w bytes h))
    ∙ take-append-drop w bytes

all_numbers_fit : (ty : ColType) (n : ℕ) (bytes : List ℕ) → IsSome (width_of ty) → AreBytes bytes → AllByRecursion (λ v. ValueFits v ty) (numbers_of ty n bytes)
all_numbers_fit ty zero bytes some h = subst (AllByRecursion (λ v. ValueFits v ty)) (sym (numbers_none ty bytes)) tt
all_numbers_fit ty (suc n) bytes some h =
    let w = width_in ty in
    subst (AllByRecursion (λ v. ValueFits v ty)) (sym (numbers_more ty n bytes))
    (number_fits ty (take w bytes) some (AreBytes-take w bytes h), all_numbers_fit ty n (drop w bytes) some (AreBytes-drop w bytes h))

pub numbers_fit : (ty : ColType) (n : ℕ) (bytes : List ℕ) → IsSome (width_of ty) → AreBytes bytes → All (λ v. ValueFits v ty) (numbers_of ty n bytes)
numbers_fit ty n bytes some h = All-from_recursion (λ v. ValueFits v ty) (numbers_of ty n bytes) (all_numbers_fit ty n bytes some h)

-- ---- rows of a values file

after_rows : (ty : ColType) (f : ℕ) (vs : List ℤ) → drop (f * width_in ty) (values_bytes ty vs) ≡ values_bytes ty (drop f vs)
after_rows ty zero vs = let none : 0 * width_in ty ≡ 0 = omega arith in ap (λ k. drop k (values_bytes ty vs)) none
after_rows ty (suc f) [] = ap (drop (suc f * width_in ty)) (values_nil ty) ∙ drop-nil (suc f * width_in ty) ∙ sym (values_nil ty)
after_rows ty (suc f) (v ∷ vs) =
    let w = width_in ty in
    let cut : suc f * w ≡ w + f * w = omega arith in
    ap (λ k. drop k (values_bytes ty (v ∷ vs))) cut ∙ sym (drop-drop (f * w) w (values_bytes ty (v ∷ vs)))
    ∙ ap (λ l. drop (f * w) (drop w l)) (values_cons ty v vs) ∙ ap (drop (f * w)) (rest_of ty v (values_bytes ty vs)) ∙ after_rows ty f vs

first_rows : (ty : ColType) (n : ℕ) (vs : List ℤ) → take (n * width_in ty) (values_bytes ty vs) ≡ values_bytes ty (take n vs)
first_rows ty zero vs = let none : 0 * width_in ty ≡ 0 = omega arith in ap (λ k. take k (values_bytes ty vs)) none ∙ sym (values_nil ty)
first_rows ty (suc n) [] = ap (take (suc n * width_in ty)) (values_nil ty) ∙ take-nil (suc n * width_in ty) ∙ sym (values_nil ty)
first_rows ty (suc n) (v ∷ vs) =
    let w = width_in ty in
    let b = number_bytes ty v in
    let cut : suc n * w ≡ length b + n * w = omega (arith, length-number_bytes ty v) in
    ap (λ k. take k (values_bytes ty (v ∷ vs))) cut ∙ ap (take (length b + n * w)) (values_cons ty v vs)
    ∙ take-append-add b (values_bytes ty vs) (n * w) ∙ ap (λ l. b ++ l) (first_rows ty n vs) ∙ sym (values_cons ty v (take n vs))

-- the bytes of n rows from the row `first` on
pub part_of_values : (ty : ColType) (first n : ℕ) (vs : List ℤ)
    → take (n * width_in ty) (drop (first * width_in ty) (values_bytes ty vs)) ≡ values_bytes ty (take n (drop first vs))
part_of_values ty first n vs = ap (take (n * width_in ty)) (after_rows ty first vs) ∙ first_rows ty n (drop first vs)

-- ---- writing

pub flattened : (ty : ColType) (vs : List ℤ) → flat_map (λ x. x) (map (number_bytes ty) vs) ≡ values_bytes ty vs
flattened ty [] = sym (values_nil ty)
flattened ty (v ∷ vs) = ap (λ l. number_bytes ty v ++ l) (flattened ty vs) ∙ sym (values_cons ty v vs)
