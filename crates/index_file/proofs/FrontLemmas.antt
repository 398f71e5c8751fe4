-- The first bytes of an index file that says its sizes are spelled so.
use Rattle.std.proofs.Common.{◌≡◌, ℕ, ◌+◌, ◌≤◌, Bool, true, false, cond, List, [], ◌++◌, length, take, drop, take-append-drop, Result, Ok, Err, IfOk, bytes_eq, nat_lt, ◌==◌, refl, sym, ap, ◌∙◌, arith, append-nil, length-drop}
use mir.Syntax.{w32}
use Rattle.std.specs.Int.{to_le_bytes, from_le_bytes}
use Rattle.std.proofs.lemmas.Bool.{eqb-true, ltb-false}
use Rattle.std.proofs.Math.ListN.{drop_of_length-le}
use Rattle.std.proofs.lemmas.List.{drop-drop}
use Rattle.std.proofs.lemmas.Slice.Eq.{bytes_eq-Decides}
use Rattle.index_file.specs.Front.{front_in, number_at, of_rows, of_version, sizes_at}
use Rattle.index_file.specs.IndexFile.{front_bytes, magic}
use Rattle.index_file.specs.declared.front.Front.{Front}
use Rattle.index_file.specs.declared.fault.IndexFault.{IndexFault}
use Rattle.index_file.specs.declared.fault.IndexFault.TheVariants as fault
use Rattle.index_file.proofs.NumberLemmas.{AreBytes, AreBytes-drop, number_spelled, wide_32}

-- what bytes say that say sizes
record Says (rows : ℕ) (bytes : List ℕ) (front : Front) : Type 0 where
  long : 24 ≤ length bytes
  word : take 4 bytes ≡ magic
  version : number_at 4 bytes ≡ 1
  of : number_at 8 bytes ≡ rows
  sizes : front ≡ sizes_at bytes

by_rows : (b : Bool) (rows : ℕ) (bytes : List ℕ) (front : Front) → (number_at 8 bytes == rows) ≡ b → cond b (Ok (sizes_at bytes)) (Err (fault.Rows rows (number_at 8 bytes))) ≡ Ok front
    → (number_at 8 bytes ≡ rows) × (front ≡ sizes_at bytes)
by_rows true rows bytes front e h = (eqb-true (number_at 8 bytes) rows e, cc)
by_rows false rows bytes front e h = absurd (cc)

by_version : (b : Bool) (rows : ℕ) (bytes : List ℕ) (front : Front) → (number_at 4 bytes == 1) ≡ b
    → cond b (of_rows rows (number_at 8 bytes) bytes) (Err (fault.Version (number_at 4 bytes))) ≡ Ok front
    → (number_at 4 bytes ≡ 1) × ((number_at 8 bytes ≡ rows) × (front ≡ sizes_at bytes))
by_version true rows bytes front e h = (eqb-true (number_at 4 bytes) 1 e, by_rows (number_at 8 bytes == rows) rows bytes front refl h)
by_version false rows bytes front e h = absurd (cc)

by_magic : (b : Bool) (rows : ℕ) (bytes : List ℕ) (front : Front) → bytes_eq (take 4 bytes) magic ≡ b
    → cond b (of_version rows (number_at 4 bytes) bytes) (Err fault.Magic) ≡ Ok front
    → (take 4 bytes ≡ magic) × ((number_at 4 bytes ≡ 1) × ((number_at 8 bytes ≡ rows) × (front ≡ sizes_at bytes)))
by_magic true rows bytes front e h = ((bytes_eq-Decides (take 4 bytes) magic).0 e, by_version (number_at 4 bytes == 1) rows bytes front refl h)
by_magic false rows bytes front e h = absurd (cc)

by_size : (b : Bool) (rows : ℕ) (bytes : List ℕ) (front : Front) → nat_lt (length bytes) 24 ≡ b
    → cond b (Err fault.Short) (cond (bytes_eq (take 4 bytes) magic) (of_version rows (number_at 4 bytes) bytes) (Err fault.Magic)) ≡ Ok front → Says rows bytes front
by_size true rows bytes front e h = absurd (cc)
by_size false rows bytes front e h =
    let more = by_magic (bytes_eq (take 4 bytes) magic) rows bytes front refl h in
    record { long = ltb-false (length bytes) 24 e; word = more.0; version = more.1.0; of = more.1.1.0; sizes = more.1.1.1 }

says : (rows : ℕ) (bytes : List ℕ) (front : Front) → front_in rows bytes ≡ Ok front → Says rows bytes front
unfolding front_in
says rows bytes front h = by_size (nat_lt (length bytes) 24) rows bytes front refl h

-- the number at a place before the bytes behind it
number_then : (at : ℕ) (bytes : List ℕ) → AreBytes bytes → at + 4 ≤ length bytes → drop at bytes ≡ to_le_bytes w32 (number_at at bytes) ++ drop (at + 4) bytes
unfolding number_at
number_then at bytes h within =
    number_spelled w32 4 wide_32 (drop at bytes) (AreBytes-drop at bytes h) (omega (arith, length-drop at bytes))
    ∙ ap (λ more. to_le_bytes w32 (from_le_bytes w32 (take 4 (drop at bytes))) ++ more) (drop-drop 4 at bytes)

pub front_spelled : (rows : ℕ) (bytes : List ℕ) (front : Front) → AreBytes bytes → length bytes ≤ 24 → front_in rows bytes ≡ Ok front
    → bytes ≡ front_bytes rows front.bins front.bitmaps front.text
unfolding front_bytes
front_spelled rows bytes front h short is =
    let said = says rows bytes front is in
    let long = said.long in
    let none : drop 24 bytes ≡ [] = drop_of_length-le bytes short in
    let le = λ (n : ℕ). to_le_bytes w32 n in
    let text : drop 20 bytes ≡ le (number_at 20 bytes) = number_then 20 bytes h (omega arith) ∙ ap (λ more. le (number_at 20 bytes) ++ more) none ∙ append-nil (le (number_at 20 bytes)) in
    let bitmaps : drop 16 bytes ≡ le (number_at 16 bytes) ++ le (number_at 20 bytes) = number_then 16 bytes h (omega arith) ∙ ap (λ more. le (number_at 16 bytes) ++ more) text in
    let bins : drop 12 bytes ≡ le (number_at 12 bytes) ++ (le (number_at 16 bytes) ++ le (number_at 20 bytes)) =
    number_then 12 bytes h (omega arith) ∙ ap (λ more. le (number_at 12 bytes) ++ more) bitmaps in
    let count : drop 8 bytes ≡ le rows ++ (le (number_at 12 bytes) ++ (le (number_at 16 bytes) ++ le (number_at 20 bytes))) =
    number_then 8 bytes h (omega arith) ∙ ap (λ more. le (number_at 8 bytes) ++ more) bins
    ∙ ap (λ n. le n ++ (le (number_at 12 bytes) ++ (le (number_at 16 bytes) ++ le (number_at 20 bytes)))) said.of in
    let version : drop 4 bytes ≡ le 1 ++ (le rows ++ (le (number_at 12 bytes) ++ (le (number_at 16 bytes) ++ le (number_at 20 bytes)))) =
    number_then 4 bytes h (omega arith) ∙ ap (λ more. le (number_at 4 bytes) ++ more) count
    ∙ ap (λ n. le n ++ (le rows ++ (le (number_at 12 bytes) ++ (le (number_at 16 bytes) ++ le (number_at 20 bytes))))) said.version in
    sym (take-append-drop 4 bytes) ∙ ap (λ more. take 4 bytes ++ more) version
    ∙ ap (λ w. w ++ (le 1 ++ (le rows ++ (le (number_at 12 bytes) ++ (le (number_at 16 bytes) ++ le (number_at 20 bytes)))))) said.word
    ∙ ap (λ f. magic ++ (le 1 ++ (le rows ++ (le f.bins ++ (le f.bitmaps ++ le f.text))))) (sym said.sizes)

pub spelled_result : (rows : ℕ) (bytes : List ℕ) (r : Result Front IndexFault) → AreBytes bytes → length bytes ≤ 24 → r ≡ front_in rows bytes
    → IfOk r (λ front. bytes ≡ front_bytes rows front.bins front.bitmaps front.text)
spelled_result rows bytes (Ok front) h short is = front_spelled rows bytes front h short (sym is)
spelled_result rows bytes (Err why) h short is = tt
