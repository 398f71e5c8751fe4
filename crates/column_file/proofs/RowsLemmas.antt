-- Rows of a file that is told.
use Rattle.std.proofs.Common.{◌≡◌, ◌+◌, ◌*◌, ◌<◌, ◌≤◌, ℕ, ℤ, List, [], All, length, take, drop, Option, Some, None, IfSome, IsSome, unwrap_or, sym, ap, subst, ◌∙◌, arith, length-drop}
use Rattle.std.proofs.lemmas.List.{take_all, length-take-le}
use Rattle.std.proofs.lemmas.List.Elements.{All-take, All-drop}
use Rattle.std.proofs.Math.Nat.{mul-le-mul_right, eq_of_mul-eq-mul_right}
use Rattle.fb_types.specs.Types.{width_of}
use Rattle.fb_types.specs.declared.types.ColType.{ColType}
use Rattle.fb_outside.specs.Files.{Files, bytes_at, told_at}
use Rattle.column_file.specs.Values.{ValueFits, values_bytes, width_in, numbers_of}
use Rattle.column_file.proofs.ValuesLemmas.{values_again, part_of_values, length-values_bytes}

-- a part of a file, of whose bytes we know
pub told_part : (files : Option Files) (name bytes got : List ℕ) (at most : ℕ) → IfSome files (λ m. got ≡ bytes_at m name at most)
    → told_at files name ≡ Some bytes → got ≡ take most (drop at bytes)
told_part None name bytes got at most given told = absurd (cc)
told_part (Some m) name bytes got at most given told = given ∙ ap (λ o. take most (drop at (unwrap_or o []))) told

-- over a file of the right length, all bytes came that were asked for
pub all_came : (files : Option Files) (name bytes buf : List ℕ) (first n rows w have : ℕ) → first + n ≤ rows → length bytes ≡ rows * w → length buf ≡ n * w → have ≤ length buf
    → IfSome files (λ m. take have buf ≡ bytes_at m name (first * w) (length buf)) → told_at files name ≡ Some bytes → have ≡ n * w
all_came files name bytes buf first n rows w have within size room count given told =
    let got = told_part files name bytes (take have buf) (first * w) (length buf) given told in
    let more : (first + n) * w ≤ rows * w = mul-le-mul_right w within in
    let came : length (take have buf) ≡ have = length-take-le have buf count in
    let enough : length (take (length buf) (drop (first * w) bytes)) ≡ length buf = length-take-le (length buf) (drop (first * w) bytes) (omega (arith, length-drop (first * w) bytes)) in
    sym came ∙ ap length got ∙ enough ∙ room

-- over the bytes of values, the numbers that were read are those of the rows
pub rows_of_values : (files : Option Files) (ty : ColType) (name buf : List ℕ) (values out : List ℤ) (first n w have : ℕ) → IsSome (width_of ty) → w ≡ width_in ty → 0 < w
    → length buf ≡ n * w → have ≡ n * w → IfSome files (λ m. take have buf ≡ bytes_at m name (first * w) (length buf))
    → told_at files name ≡ Some (values_bytes ty values) → All (λ v. ValueFits v ty) values → out ≡ numbers_of ty n buf
    → out ≡ take n (drop first values)
rows_of_values files ty name buf values out first n w have some wide wider room count given told fit read =
    let part : List ℤ = take n (drop first values) in
    let got = told_part files name (values_bytes ty values) (take have buf) (first * w) (length buf) given told in
    let all : take have buf ≡ buf = take_all have buf (omega arith) in
    let cut : take (length buf) (drop (first * w) (values_bytes ty values)) ≡ take (n * width_in ty) (drop (first * width_in ty) (values_bytes ty values)) =
    ap (λ k. take k (drop (first * w) (values_bytes ty values))) (room ∙ ap (λ k. n * k) wide) ∙ ap (λ k. take (n * width_in ty) (drop (first * k) (values_bytes ty values))) wide in
    let spelled : buf ≡ values_bytes ty part = sym all ∙ got ∙ cut ∙ part_of_values ty first n values in
    let many : n * w ≡ length part * w = sym room ∙ ap length spelled ∙ length-values_bytes ty part ∙ ap (λ k. length part * k) (sym wide) in
    let count_of : n ≡ length part = eq_of_mul-eq-mul_right w wider n (length part) many in
    let fits : All (λ v. ValueFits v ty) part = All-take (λ v. ValueFits v ty) n (drop first values) (All-drop (λ v. ValueFits v ty) first values fit) in
    read ∙ ap (λ k. numbers_of ty k buf) count_of ∙ ap (numbers_of ty (length part)) spelled ∙ values_again ty part some fits

-- the same of the name and the row that were meant
pub as_meant : (files : Option Files) (got asked name : List ℕ) (from first w most : ℕ) → asked ≡ name → from ≡ first
    → IfSome files (λ m. got ≡ bytes_at m asked (from * w) most) → IfSome files (λ m. got ≡ bytes_at m name (first * w) most)
as_meant files got asked name from first w most named placed h =
    subst (λ (k : ℕ). IfSome files (λ m. got ≡ bytes_at m name (k * w) most)) placed
    (subst (λ (q : List ℕ). IfSome files (λ m. got ≡ bytes_at m q (from * w) most)) named h)
