-- Numbers of a fixed width and their bytes, both ways.
use Rattle.std.proofs.Common.{◌≡◌, ℕ, ℤ, pos, zero, suc, ◌+◌, ◌*◌, ◌/◌, ◌%◌, ◌^◌, ◌<◌, ◌≤◌, inl, inr, List, [], ◌∷◌, ◌++◌, length, get_or, take, drop, take-append-drop, length-take, lit<, refl, sym, ap, ◌∙◌, arith, append-nil}
use lib.IntN.{negsuc}
use mir.Syntax.{Width, w32, w64, w128}
use mir.Val.{SFits, of_z, to_z, bits}
use Rattle.std.specs.Int.{to_le_bytes, from_le_bytes, byte_at, bytes_low_first}
use Rattle.std.proofs.Math.Nat.{div-div-eq-div-mul, pow-suc}
use Rattle.std.proofs.Math.Seq.{take-append_seam, drop-append_seam}
use Rattle.std.proofs.lemmas.Bool.{cases_lt}
use Rattle.std.proofs.lemmas.Int.{to_z-of_z, of_z-to_z}
use Rattle.std.proofs.lemmas.List.{get_or-drop, get_or-take, get_or_past, length-take-le}
use Rattle.byteorder.specs.Endian.{little_from}
use Rattle.byteorder.specs.Numbers.{little_from-cons, little_number-reads_back, little_from-lt}

abbrev pub AreBytes : List ℕ → Type 0
AreBytes bytes = (i : ℕ) → get_or bytes i 0 < 256

pub AreBytes-take : (n : ℕ) (bytes : List ℕ) → AreBytes bytes → AreBytes (take n bytes)
AreBytes-take n bytes h i =
    elim (cases_lt i n) [
      | inl in_front ↦ rw (get_or-take n bytes i 0 in_front) (h i)
      | inr past ↦ rw (get_or_past (take n bytes) i 0 (rw (length-take n bytes) (omega arith))) (lit< tt)
    ]

pub AreBytes-drop : (n : ℕ) (bytes : List ℕ) → AreBytes bytes → AreBytes (drop n bytes)
AreBytes-drop n bytes h i = rw (get_or-drop n bytes i 0) (h (n + i))

-- ---- bytes written back from the number that they spell

-- byte j of a number is byte j - 1 of what stands above its lowest byte
byte_above : (j x : ℕ) → byte_at (suc j) x ≡ byte_at j (x / 256)
byte_above zero x = refl
byte_above (suc j) x =
    let product : 256 ^ suc (suc j) ≡ 256 * 256 ^ suc j = pow-suc 256 (suc j) ∙ omega arith in
    ap (λ p. x / p % 256) product ∙ ap (λ q. q % 256) (sym (div-div-eq-div-mul x 256 (256 ^ suc j)))

bytes_above : (j k x : ℕ) → bytes_low_first (suc j) k x ≡ bytes_low_first j k (x / 256)
bytes_above j zero x = refl
bytes_above j (suc k) x = ap (λ b. b ∷ bytes_low_first (suc (suc j)) k x) (byte_above j x) ∙ ap (λ bs. byte_at j (x / 256) ∷ bs) (bytes_above (suc j) k x)

low_byte : (b r : ℕ) → b < 256 → (b + 256 * r) % 256 ≡ b
low_byte b r h = omega arith

above_byte : (b r : ℕ) → b < 256 → (b + 256 * r) / 256 ≡ r
above_byte b r h = omega arith

bytes_again : (bytes : List ℕ) → AreBytes bytes → bytes_low_first 0 (length bytes) (little_from 0 (length bytes) bytes) ≡ bytes
bytes_again [] h = refl
bytes_again (b ∷ bs) h =
    let n = length bs in
    let r = little_from 0 n bs in
    let sum : little_from 0 (suc n) (b ∷ bs) ≡ b + 256 * r = ap (λ k. b + 256 * k) (little_from-cons 0 n b bs) in
    ap (bytes_low_first 0 (suc n)) sum
    ∙ ap (λ c. c ∷ bytes_low_first 1 n (b + 256 * r)) (low_byte b r (h 0))
    ∙ ap (λ cs. b ∷ cs) (bytes_above 0 n (b + 256 * r) ∙ ap (bytes_low_first 0 n) (above_byte b r (h 0)) ∙ bytes_again bs (λ i. h (suc i)))

-- ---- each width

-- what holds at a width of so many bytes
pub record Wide (w : Width) (size : ℕ) : Type 0 where
  pub size_is : (n : ℕ) → length (to_le_bytes w n) ≡ size
  pub read : (n : ℕ) → n < 2 ^ bits w → from_le_bytes w (to_le_bytes w n) ≡ n
  pub written : (bytes : List ℕ) → length bytes ≡ size → AreBytes bytes → to_le_bytes w (from_le_bytes w bytes) ≡ bytes
  pub small : (bytes : List ℕ) → AreBytes bytes → from_le_bytes w bytes < 2 ^ bits w

same_32 : (bytes : List ℕ) → from_le_bytes w32 bytes ≡ little_from 0 4 bytes
same_32 bytes = omega arith

same_64 : (bytes : List ℕ) → from_le_bytes w64 bytes ≡ little_from 0 8 bytes
same_64 bytes = omega arith

same_128 : (bytes : List ℕ) → from_le_bytes w128 bytes ≡ little_from 0 16 bytes
same_128 bytes = omega arith

again_at : (size : ℕ) (bytes : List ℕ) → length bytes ≡ size → AreBytes bytes → bytes_low_first 0 size (little_from 0 size bytes) ≡ bytes
again_at size bytes l h = ap (λ n. bytes_low_first 0 n (little_from 0 n bytes)) (sym l) ∙ bytes_again bytes h

read_at : (size n : ℕ) → n < 256 ^ size → little_from 0 size (bytes_low_first 0 size n) ≡ n
read_at size n h = ap (little_from 0 size) (sym (append-nil (bytes_low_first 0 size n))) ∙ little_number-reads_back size n [] h

pub wide_32 : Wide w32 4
wide_32 = record {
  size_is = λ n. refl;
  read = λ n h. same_32 (to_le_bytes w32 n) ∙ read_at 4 n h;
  written = λ bytes l h. ap (bytes_low_first 0 4) (same_32 bytes) ∙ again_at 4 bytes l h;
  small = λ bytes h. rw (same_32 bytes) (little_from-lt 0 4 bytes h);
}

pub wide_64 : Wide w64 8
wide_64 = record {
  size_is = λ n. refl;
  read = λ n h. same_64 (to_le_bytes w64 n) ∙ read_at 8 n h;
  written = λ bytes l h. ap (bytes_low_first 0 8) (same_64 bytes) ∙ again_at 8 bytes l h;
  small = λ bytes h. rw (same_64 bytes) (little_from-lt 0 8 bytes h);
}

pub wide_128 : Wide w128 16
wide_128 = record {
  size_is = λ n. refl;
  read = λ n h. same_128 (to_le_bytes w128 n) ∙ read_at 16 n h;
  written = λ bytes l h. ap (bytes_low_first 0 16) (same_128 bytes) ∙ again_at 16 bytes l h;
  small = λ bytes h. rw (same_128 bytes) (little_from-lt 0 16 bytes h);
}

-- ---- a number before other bytes

pub number_front : (w : Width) (size : ℕ) → Wide w size → (n : ℕ) (rest : List ℕ) → n < 2 ^ bits w → from_le_bytes w (take size (to_le_bytes w n ++ rest)) ≡ n
number_front w size wide n rest h =
    ap (λ k. from_le_bytes w (take k (to_le_bytes w n ++ rest))) (sym (wide.size_is n)) ∙ ap (from_le_bytes w) (take-append_seam (to_le_bytes w n) rest) ∙ wide.read n h

pub number_rest : (w : Width) (size : ℕ) → Wide w size → (n : ℕ) (rest : List ℕ) → drop size (to_le_bytes w n ++ rest) ≡ rest
number_rest w size wide n rest = ap (λ k. drop k (to_le_bytes w n ++ rest)) (sym (wide.size_is n)) ∙ drop-append_seam (to_le_bytes w n) rest

-- bytes begin with the spelling of the number that they begin with
pub number_spelled : (w : Width) (size : ℕ) → Wide w size → (bytes : List ℕ) → AreBytes bytes → size ≤ length bytes
    → bytes ≡ to_le_bytes w (from_le_bytes w (take size bytes)) ++ drop size bytes
number_spelled w size wide bytes h some =
    sym (take-append-drop size bytes)
    ∙ ap (λ front. front ++ drop size bytes) (sym (wide.written (take size bytes) (length-take-le size bytes some) (AreBytes-take size bytes h)))

-- ---- numbers with a sign

fits_low : (v : ℤ) → SFits w128 v → of_z w128 v < 2 ^ 128
fits_low (pos n) h = let small = h.sfits in omega arith
fits_low (negsuc n) h = let small = h.sfits in omega arith

pub signed_again : (v : ℤ) → SFits w128 v → to_z w128 (from_le_bytes w128 (to_le_bytes w128 (of_z w128 v))) ≡ v
signed_again v h = ap (to_z w128) (wide_128.read (of_z w128 v) (fits_low v h)) ∙ to_z-of_z w128 v h

pub signed_back : (bytes : List ℕ) → length bytes ≡ 16 → AreBytes bytes → to_le_bytes w128 (of_z w128 (to_z w128 (from_le_bytes w128 bytes))) ≡ bytes
signed_back bytes l h = ap (to_le_bytes w128) (of_z-to_z w128 (from_le_bytes w128 bytes) (wide_128.small bytes h)) ∙ wide_128.written bytes l h
