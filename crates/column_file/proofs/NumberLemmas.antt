-- One number and its bytes, both ways.
use Rattle.std.proofs.Common.{◌≡◌, ◌%◌, ◌-◌, ◌^◌, ◌<◌, ◌≤ℤ◌, ℕ, ℤ, pos, false, true, IsSome, List, [], ◌∷◌, length, length-take, take, drop, get_or, lit<, inl, inr, ◌+◌, ◌≤◌, refl, ap, ◌∙◌, arith}
use lib.IntN.{negsuc}
use mir.Syntax.{Width, w8, w16, w32, w64}
use mir.Val.{SFits, of_z, to_z, bits}
use Rattle.std.specs.Int.{to_le_bytes, from_le_bytes}
use Rattle.std.proofs.lemmas.Bool.{cases_lt}
use Rattle.std.proofs.lemmas.List.{get_or-drop, get_or-take, get_or_past}
use Rattle.std.proofs.lemmas.Int.{ints, to_z-of_z, of_z-to_z}
use Rattle.std.proofs.lemmas.Nat.{le_bytes_2, le_bytes_4, le_bytes_8, from_le_bytes-to_le_bytes_2, from_le_bytes-to_le_bytes_4, from_le_bytes-to_le_bytes_8}
use Rattle.fb_types.specs.Types.{signed_ends, width_of}
use Rattle.fb_types.specs.declared.types.ColType.{ColType}
use Rattle.fb_types.specs.declared.types.ColType.TheVariants.{Byte, UByte, Short, UShort, Int, UInt, Long, ULong, Category, Text}
use Rattle.column_file.specs.Values.{ValueFits, number_bytes, number_of, width_in, signed_at, unsigned_at}

abbrev pub AreBytes : List ℕ → Type 0
AreBytes bytes = (i : ℕ) → get_or bytes i 0 < 256

pub AreBytes-take : (n : ℕ) (bytes : List ℕ) → AreBytes bytes → AreBytes (take n bytes)
AreBytes-take n bytes h i =
    elim (cases_lt i n) [
      | inl in_front ↦ rw (get_or-take n bytes i 0 in_front) (h i)
      | inr past ↦ rw (get_or_past (take n bytes) i 0 (rw (length-take n bytes) (omega arith))) (lit< tt)
    ]

pub AreBytes-drop : (n : ℕ) (bytes : List ℕ) → AreBytes bytes → AreBytes (drop n bytes)
AreBytes-drop n bytes h i = rw (get_or-drop n bytes i 0) (h (n + i))

abbrev IsWithin : ℤ × ℤ → ℤ → Type 0
IsWithin ends v = (ends.0 ≤ℤ v) × (v ≤ℤ ends.1)

-- What holds at a width of so many bytes: a number is read back from its bytes, bytes are written back from their
-- number, and the numbers are those between the ends.
record Turns (w : Width) (size : ℕ) : Type 0 where
  read : (n : ℕ) → n < 2 ^ bits w → from_le_bytes w (to_le_bytes w n) ≡ n
  written : (bytes : List ℕ) → length bytes ≡ size → AreBytes bytes → to_le_bytes w (from_le_bytes w bytes) ≡ bytes
  small : (bytes : List ℕ) → AreBytes bytes → from_le_bytes w bytes < 2 ^ bits w
  fits : (v : ℤ) → IsWithin (signed_ends (bits w)) v → SFits w v
  low : (v : ℤ) → IsWithin (signed_ends (bits w)) v → of_z w v < 2 ^ bits w
  between : (n : ℕ) → n < 2 ^ bits w → IsWithin (signed_ends (bits w)) (to_z w n)

one_back : (bytes : List ℕ) → length bytes ≡ 1 → AreBytes bytes → to_le_bytes w8 (from_le_bytes w8 bytes) ≡ bytes
one_back [] l h = absurd (omega arith)
one_back (b ∷ []) l h = let small : b < 256 = h 0 in let same : b % 256 ≡ b = omega arith in ap (λ x. x ∷ []) same
one_back (b ∷ c ∷ bs) l h = absurd (omega arith)

fits_8 : (v : ℤ) → IsWithin (signed_ends 8) v → SFits w8 v
fits_8 (pos n) h = record { sfits = omega (arith, ints, h.0, h.1) }
fits_8 (negsuc n) h = record { sfits = omega (arith, ints, h.0, h.1) }

fits_16 : (v : ℤ) → IsWithin (signed_ends 16) v → SFits w16 v
fits_16 (pos n) h = record { sfits = omega (arith, ints, h.0, h.1) }
fits_16 (negsuc n) h = record { sfits = omega (arith, ints, h.0, h.1) }

fits_32 : (v : ℤ) → IsWithin (signed_ends 32) v → SFits w32 v
fits_32 (pos n) h = record { sfits = omega (arith, ints, h.0, h.1) }
fits_32 (negsuc n) h = record { sfits = omega (arith, ints, h.0, h.1) }

fits_64 : (v : ℤ) → IsWithin (signed_ends 64) v → SFits w64 v
fits_64 (pos n) h = record { sfits = omega (arith, ints, h.0, h.1) }
fits_64 (negsuc n) h = record { sfits = omega (arith, ints, h.0, h.1) }

low_8 : (v : ℤ) → IsWithin (signed_ends 8) v → of_z w8 v < 2 ^ 8
low_8 (pos n) h = omega (arith, ints, h.0, h.1)
low_8 (negsuc n) h = omega (arith, ints, h.0, h.1)

low_16 : (v : ℤ) → IsWithin (signed_ends 16) v → of_z w16 v < 2 ^ 16
low_16 (pos n) h = omega (arith, ints, h.0, h.1)
low_16 (negsuc n) h = omega (arith, ints, h.0, h.1)

low_32 : (v : ℤ) → IsWithin (signed_ends 32) v → of_z w32 v < 2 ^ 32
low_32 (pos n) h = omega (arith, ints, h.0, h.1)
low_32 (negsuc n) h = omega (arith, ints, h.0, h.1)

low_64 : (v : ℤ) → IsWithin (signed_ends 64) v → of_z w64 v < 2 ^ 64
low_64 (pos n) h = omega (arith, ints, h.0, h.1)
low_64 (negsuc n) h = omega (arith, ints, h.0, h.1)

turns_8 : Turns w8 1
turns_8 = record {
  read = λ n h. omega arith;
  written = one_back;
  small = λ bytes h. omega (arith, h 0);
  fits = fits_8;
  low = low_8;
  between = λ n h. (omega (arith, ints), omega (arith, ints));
}

turns_16 : Turns w16 2
turns_16 = record {
  read = from_le_bytes-to_le_bytes_2;
  written = λ bytes l h. le_bytes_2 bytes (from_le_bytes w16 bytes) l h refl;
  small = λ bytes h. omega (arith, h 0, h 1);
  fits = fits_16;
  low = low_16;
  between = λ n h. (omega (arith, ints), omega (arith, ints));
}

turns_32 : Turns w32 4
turns_32 = record {
  read = from_le_bytes-to_le_bytes_4;
  written = λ bytes l h. le_bytes_4 bytes (from_le_bytes w32 bytes) l h refl;
  small = λ bytes h. omega (arith, h 0, h 1, h 2, h 3);
  fits = fits_32;
  low = low_32;
  between = λ n h. (omega (arith, ints), omega (arith, ints));
}

turns_64 : Turns w64 8
turns_64 = record {
  read = from_le_bytes-to_le_bytes_8;
  written = λ bytes l h. le_bytes_8 bytes (from_le_bytes w64 bytes) l h refl;
  small = λ bytes h. omega (arith, h 0, h 1, h 2, h 3, h 4, h 5, h 6, h 7);
  fits = fits_64;
  low = low_64;
  between = λ n h. (omega (arith, ints), omega (arith, ints));
}

-- ---- with a sign and without

signed_again : (w : Width) (size : ℕ) → Turns w size → (v : ℤ) → IsWithin (signed_ends (bits w)) v → signed_at w (to_le_bytes w (of_z w v)) ≡ v
signed_again w size t v h = ap (to_z w) (t.read (of_z w v) (t.low v h)) ∙ to_z-of_z w v (t.fits v h)

signed_back : (w : Width) (size : ℕ) → Turns w size → (bytes : List ℕ) → length bytes ≡ size → AreBytes bytes → to_le_bytes w (of_z w (signed_at w bytes)) ≡ bytes
signed_back w size t bytes l h = ap (to_le_bytes w) (of_z-to_z w (from_le_bytes w bytes) (t.small bytes h)) ∙ t.written bytes l h

signed_between : (w : Width) (size : ℕ) → Turns w size → (bytes : List ℕ) → AreBytes bytes → IsWithin (signed_ends (bits w)) (signed_at w bytes)
signed_between w size t bytes h = t.between (from_le_bytes w bytes) (t.small bytes h)

plain_again : (w : Width) (size top : ℕ) → Turns w size → 0 < top → top ≡ 2 ^ bits w → (v : ℤ) → IsWithin (pos 0, pos (top - 1)) v → unsigned_at w (to_le_bytes w (of_z w v)) ≡ v
plain_again w size top t some is (pos n) h = ap pos (t.read n (omega (arith, ints, h.1)))
plain_again w size top t some is (negsuc n) h = absurd (omega (arith, ints, h.0))

plain_between : (w : Width) (size top : ℕ) → Turns w size → top ≡ 2 ^ bits w → (bytes : List ℕ) → AreBytes bytes → IsWithin (pos 0, pos (top - 1)) (unsigned_at w bytes)
plain_between w size top t is bytes h = let small = t.small bytes h in (omega (arith, ints), omega (arith, ints))

-- ---- each type

-- a number that the type has is read back from its bytes
pub number_again : (ty : ColType) (v : ℤ) → IsSome (width_of ty) → ValueFits v ty → number_of ty (number_bytes ty v) ≡ v
unfolding number_of number_bytes
number_again Byte v some h = signed_again w8 1 turns_8 v h
number_again UByte v some h = plain_again w8 1 (2 ^ 8) turns_8 (lit< tt) refl v h
number_again Short v some h = signed_again w16 2 turns_16 v h
number_again UShort v some h = plain_again w16 2 (2 ^ 16) turns_16 (lit< tt) refl v h
number_again Int v some h = signed_again w32 4 turns_32 v h
number_again UInt v some h = plain_again w32 4 (2 ^ 32) turns_32 (lit< tt) refl v h
number_again Long v some h = signed_again w64 8 turns_64 v h
number_again ULong v some h = plain_again w64 8 (2 ^ 64) turns_64 (lit< tt) refl v h
number_again Category v some h = plain_again w32 4 (2 ^ 32) turns_32 (lit< tt) refl v h
number_again Text v some h = absurd (let e : false ≡ true = some in cc)

-- bytes of the type's width are written back from their number
pub bytes_again : (ty : ColType) (bytes : List ℕ) → IsSome (width_of ty) → length bytes ≡ width_in ty → AreBytes bytes → number_bytes ty (number_of ty bytes) ≡ bytes
unfolding number_of number_bytes
bytes_again Byte bytes some l h = signed_back w8 1 turns_8 bytes l h
bytes_again UByte bytes some l h = turns_8.written bytes l h
bytes_again Short bytes some l h = signed_back w16 2 turns_16 bytes l h
bytes_again UShort bytes some l h = turns_16.written bytes l h
bytes_again Int bytes some l h = signed_back w32 4 turns_32 bytes l h
bytes_again UInt bytes some l h = turns_32.written bytes l h
bytes_again Long bytes some l h = signed_back w64 8 turns_64 bytes l h
bytes_again ULong bytes some l h = turns_64.written bytes l h
bytes_again Category bytes some l h = turns_32.written bytes l h
bytes_again Text bytes some l h = absurd (let e : false ≡ true = some in cc)

-- and the type has that number
pub number_fits : (ty : ColType) (bytes : List ℕ) → IsSome (width_of ty) → AreBytes bytes → ValueFits (number_of ty bytes) ty
unfolding number_of
number_fits Byte bytes some h = signed_between w8 1 turns_8 bytes h
number_fits UByte bytes some h = plain_between w8 1 (2 ^ 8) turns_8 refl bytes h
number_fits Short bytes some h = signed_between w16 2 turns_16 bytes h
number_fits UShort bytes some h = plain_between w16 2 (2 ^ 16) turns_16 refl bytes h
number_fits Int bytes some h = signed_between w32 4 turns_32 bytes h
number_fits UInt bytes some h = plain_between w32 4 (2 ^ 32) turns_32 refl bytes h
number_fits Long bytes some h = signed_between w64 8 turns_64 bytes h
number_fits ULong bytes some h = plain_between w64 8 (2 ^ 64) turns_64 refl bytes h
number_fits Category bytes some h = plain_between w32 4 (2 ^ 32) turns_32 refl bytes h
number_fits Text bytes some h = absurd (let e : false ≡ true = some in cc)

-- each number takes the type's width
pub length-number_bytes : (ty : ColType) (v : ℤ) → length (number_bytes ty v) ≡ width_in ty
unfolding number_bytes
length-number_bytes Byte v = refl
length-number_bytes UByte v = refl
length-number_bytes Short v = refl
length-number_bytes UShort v = refl
length-number_bytes Int v = refl
length-number_bytes UInt v = refl
length-number_bytes Long v = refl
length-number_bytes ULong v = refl
length-number_bytes Category v = refl
length-number_bytes Text v = refl
