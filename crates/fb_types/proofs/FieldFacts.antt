-- Numbers that are cut where no type lets them in.
use Rattle.std.proofs.Common.{◌≡◌, ℕ, ◌-◌, ◌^◌, ◌<◌, ◌≤◌, false, List, [], ◌∷◌, length, min, refl, ap, ◌∙◌, sym, arith, Option, Some, None, ℤ, pos, negsuc, neg_ℤ, ◌&&◌, inl, inr, int_le, ◌<ℤ◌}
use Rattle.std.specs.Option.{option_map}
use Rattle.std.proofs.lemmas.Bool.{cases_lt, lt-leb}
use Rattle.std.proofs.lemmas.Int.{ints}
use Rattle.std.proofs.Math.Bool.{and-false}
use Rattle.fb_types.specs.declared.types.ColType.{ColType}
use Rattle.fb_types.specs.declared.types.ColType.TheVariants.{Byte, UByte, Short, UShort, Int, UInt, Long, ULong, Category, Text}
use Rattle.fb_types.specs.declared.fields.FieldAnswer.TheVariants.{OutOfRange}
use Rattle.fb_types.specs.Types.{ends_of}
use Rattle.fb_types.specs.Field.{whole_of, capped, number_answer, text_answer}

-- a number outside the ends
answer_outside : (z low high : ℤ) → (int_le low z && int_le z high) ≡ false → number_answer (Some z) (Some (low, high)) ≡ OutOfRange
answer_outside z low high outside = rw outside refl

above : (n : ℕ) (low high : ℤ) → high <ℤ pos (2 ^ 64) → 2 ^ 64 ≤ n → (int_le low (pos n) && int_le (pos n) high) ≡ false
above n low (pos b) ends big =
    let small : b < 2 ^ 64 = omega (arith, ints, ends) in
    rw (lt-leb n b (omega arith)) (and-false (int_le low (pos n)))
above n low (negsuc b) ends big = and-false (int_le low (pos n))

below : (n : ℕ) (low high : ℤ) → neg_ℤ (pos (2 ^ 64)) <ℤ low → 2 ^ 64 - 1 ≤ n → (int_le low (negsuc n) && int_le (negsuc n) high) ≡ false
below n (pos a) high ends big = refl
below n (negsuc a) high ends big =
    let small : a < 2 ^ 64 - 1 = omega (arith, ints, ends) in
    rw (lt-leb n a (omega arith)) refl

-- a number that is cut is beyond all ends, before and after
capped_within : (z low high : ℤ) → neg_ℤ (pos (2 ^ 64)) <ℤ low → high <ℤ pos (2 ^ 64) → number_answer (Some (capped z)) (Some (low, high)) ≡ number_answer (Some z) (Some (low, high))
capped_within (pos n) low high low_end high_end =
    elim (cases_lt n (2 ^ 64)) [
      | inl small ↦ ap (λ m. number_answer (Some (pos m)) (Some (low, high))) (omega arith)
      | inr big ↦ answer_outside (pos (min n (2 ^ 64))) low high (above (min n (2 ^ 64)) low high high_end (omega arith))
          ∙ sym (answer_outside (pos n) low high (above n low high high_end big))
    ]
capped_within (negsuc n) low high low_end high_end =
    elim (cases_lt n (2 ^ 64 - 1)) [
      | inl small ↦ ap (λ m. number_answer (Some (negsuc m)) (Some (low, high))) (omega arith)
      | inr big ↦ answer_outside (negsuc (min n (2 ^ 64 - 1))) low high (below (min n (2 ^ 64 - 1)) low high low_end (omega arith))
          ∙ sym (answer_outside (negsuc n) low high (below n low high low_end big))
    ]

capped_answer : (z : ℤ) (ty : ColType) → number_answer (Some (capped z)) (ends_of ty) ≡ number_answer (Some z) (ends_of ty)
capped_answer z Byte = capped_within z (negsuc 127) (pos 127) (omega (arith, ints)) (omega (arith, ints))
capped_answer z UByte = capped_within z (pos 0) (pos 255) (omega (arith, ints)) (omega (arith, ints))
capped_answer z Short = capped_within z (negsuc 32767) (pos 32767) (omega (arith, ints)) (omega (arith, ints))
capped_answer z UShort = capped_within z (pos 0) (pos 65535) (omega (arith, ints)) (omega (arith, ints))
capped_answer z Int = capped_within z (negsuc 2147483647) (pos 2147483647) (omega (arith, ints)) (omega (arith, ints))
capped_answer z UInt = capped_within z (pos 0) (pos 4294967295) (omega (arith, ints)) (omega (arith, ints))
capped_answer z Long = capped_within z (negsuc 9223372036854775807) (pos 9223372036854775807) (omega (arith, ints)) (omega (arith, ints))
capped_answer z ULong = capped_within z (pos 0) (pos 18446744073709551615) (omega (arith, ints)) (omega (arith, ints))
capped_answer z Category = refl
capped_answer z Text = refl

pub answer_found : (found : Option ℤ) (number : ℤ) (ty : ColType) → Some number ≡ option_map capped found → number_answer (Some number) (ends_of ty) ≡ number_answer found (ends_of ty)
answer_found None number ty is = cc
answer_found (Some z) number ty is =
    let same : number ≡ capped z = cc in ap (λ n. number_answer (Some n) (ends_of ty)) same ∙ capped_answer z ty

pub text_answer-some : (text : List ℕ) (ends : Option (ℤ × ℤ)) → 0 < length text → text_answer text ends ≡ number_answer (whole_of text) ends
text_answer-some [] ends some = absurd (omega arith)
text_answer-some (b ∷ bs) ends some = refl
