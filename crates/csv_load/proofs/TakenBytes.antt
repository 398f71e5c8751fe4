-- What a source that told its bytes had left, by what was taken from it.
use Rattle.std.proofs.Common.{◌≡◌, ◌≤◌, ◌++◌, ℕ, List, Option, Some, None, ap, arith, length, length-append}
use Rattle.std.proofs.lemmas.List.{append-nil}
use Rattle.fb_outside.specs.Streams.{IsAtEnd, Takes}

-- what was taken up to the end is all that was left
pub takes-all : (old new : Option (List ℕ)) (taken all : List ℕ) → Takes old new taken → IsAtEnd new → old ≡ Some all → all ≡ taken
takes-all old None taken all h e t = cc
takes-all old (Some rest) taken all h e t =
    let same : Some (taken ++ rest) ≡ Some all = cc in
    let parts : taken ++ rest ≡ all = cc in
    rw (← parts, e) (append-nil taken)

-- no more was taken than was left
pub takes-length : (old new : Option (List ℕ)) (taken all : List ℕ) → Takes old new taken → old ≡ Some all → length taken ≤ length all
takes-length old None taken all h t = cc
takes-length old (Some rest) taken all h t =
    let same : Some (taken ++ rest) ≡ Some all = cc in
    let parts : taken ++ rest ≡ all = cc in
    let sizes : length (taken ++ rest) ≡ length all = ap length parts in
    omega (arith, length-append taken rest)
