-- Tests of whole numbers, and a choice by a truth value.
use Rattle.std.proofs.Common.{◌≡◌, Bool, true, false, ◌||◌, ℤ, ◌≤ℤ◌, ◌<ℤ◌, refl, arith}
use Rattle.std.proofs.lemmas.Int.{ints}
use Rattle.binning.specs.Spans.{int_le}

pub either : {X : Type 0} (b : Bool) → (b ≡ true → X) → (b ≡ false → X) → X
either true f g = f refl
either false f g = g refl

pub not_both : {X : Type 0} {b : Bool} → b ≡ true → b ≡ false → X
not_both t f = absurd (cc)

pub int_le-true : (a b : ℤ) → a ≤ℤ b → int_le a b ≡ true
int_le-true a b h = grind (arith, ints)

pub int_le-false : (a b : ℤ) → b <ℤ a → int_le a b ≡ false
int_le-false a b h = grind (arith, ints)

pub le_from : (a b : ℤ) → int_le a b ≡ true → a ≤ℤ b
le_from a b h = grind (arith, ints)

pub lt_from : (a b : ℤ) → int_le a b ≡ false → b <ℤ a
lt_from a b h = grind (arith, ints)

pub or-false : (b : Bool) → (b || false) ≡ b
or-false true = refl
or-false false = refl

pub or_false : (a b : Bool) → a ≡ false → b ≡ false → (a || b) ≡ false
or_false a b h k = cc
