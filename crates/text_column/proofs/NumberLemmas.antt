-- Numbers of a fixed width and their bytes, both ways.
use Rattle.std.proofs.Common.{◌≡◌, ℕ, ◌+◌, ◌^◌, ◌<◌, ◌≤◌, inl, inr, List, ◌++◌, length, get_or, take, drop, take-append-drop, length-take, lit<, refl, sym, ap, ◌∙◌, arith}
use mir.Syntax.{Width, w16, w32, w64}
use mir.Val.{bits}
use Rattle.std.specs.Int.{to_le_bytes, from_le_bytes}
use Rattle.column_file.proofs.NumberLemmas.{AreBytes, AreBytes-take}
use Rattle.std.proofs.Math.Seq.{take-append_seam, drop-append_seam}
use Rattle.std.proofs.lemmas.Bool.{cases_lt}
use Rattle.std.proofs.lemmas.List.{get_or-drop, get_or-take, get_or_past, length-take-le}
use Rattle.std.proofs.lemmas.Nat.{le_bytes_2, le_bytes_4, le_bytes_8, from_le_bytes-to_le_bytes_2, from_le_bytes-to_le_bytes_4, from_le_bytes-to_le_bytes_8}

-- what holds at a width of so many bytes
pub record Wide (w : Width) (size : ℕ) : Type 0 where
  pub size_is : (n : ℕ) → length (to_le_bytes w n) ≡ size
  pub read : (n : ℕ) → n < 2 ^ bits w → from_le_bytes w (to_le_bytes w n) ≡ n
  pub written : (bytes : List ℕ) → length bytes ≡ size → AreBytes bytes → to_le_bytes w (from_le_bytes w bytes) ≡ bytes
  pub small : (bytes : List ℕ) → AreBytes bytes → from_le_bytes w bytes < 2 ^ bits w

pub wide_16 : Wide w16 2
wide_16 = record {
  size_is = λ n. refl;
  read = from_le_bytes-to_le_bytes_2;
  written = λ bytes l h. le_bytes_2 bytes (from_le_bytes w16 bytes) l h refl;
  small = λ bytes h. omega (arith, h 0, h 1);
}

pub wide_32 : Wide w32 4
wide_32 = record {
  size_is = λ n. refl;
  read = from_le_bytes-to_le_bytes_4;
  written = λ bytes l h. le_bytes_4 bytes (from_le_bytes w32 bytes) l h refl;
  small = λ bytes h. omega (arith, h 0, h 1, h 2, h 3);
}

pub wide_64 : Wide w64 8
wide_64 = record {
  size_is = λ n. refl;
  read = from_le_bytes-to_le_bytes_8;
  written = λ bytes l h. le_bytes_8 bytes (from_le_bytes w64 bytes) l h refl;
  small = λ bytes h. omega (arith, h 0, h 1, h 2, h 3, h 4, h 5, h 6, h 7);
}

pub number_front : (w : Width) (size : ℕ) → Wide w size → (n : ℕ) (rest : List ℕ) → n < 2 ^ bits w → from_le_bytes w (take size (to_le_bytes w n ++ rest)) ≡ n
number_front w size wide n rest h =
    ap (λ k. from_le_bytes w (take k (to_le_bytes w n ++ rest))) (sym (wide.size_is n)) ∙ ap (from_le_bytes w) (take-append_seam (to_le_bytes w n) rest) ∙ wide.read n h

pub number_rest : (w : Width) (size : ℕ) → Wide w size → (n : ℕ) (rest : List ℕ) → drop size (to_le_bytes w n ++ rest) ≡ rest
number_rest w size wide n rest = ap (λ k. drop k (to_le_bytes w n ++ rest)) (sym (wide.size_is n)) ∙ drop-append_seam (to_le_bytes w n) rest

-- bytes begin with the spelling of the number that they begin with
pub number_spelled : (w : Width) (size : ℕ) → Wide w size → (bytes : List ℕ) → AreBytes bytes → size ≤ length bytes
    → bytes ≡ to_le_bytes w (from_le_bytes w (take size bytes)) ++ drop size bytes
number_spelled w size wide bytes h some =
    sym (take-append-drop size bytes)
    ∙ ap (λ front. front ++ drop size bytes) (sym (wide.written (take size bytes) (length-take-le size bytes some) (AreBytes-take size bytes h)))
