-- How many values are true.
use Rattle.std.proofs.Common.{◌≡◌, ℕ, zero, suc, ◌+◌, ◌-◌, ◌*◌, ◌/◌, ◌%◌, ◌^◌, ◌<◌, ◌≤◌, Bool, true, false, cond, eqb, nat_lt, nat_le, List, [], ◌∷◌, ◌++◌, length, get_or, take, drop, replicate, refl, sym, ap, ◌∙◌, arith, lit<, count_by, zero-add, Some, None}
use Rattle.std.proofs.lemmas.List.Sums.{sum_by-append}
use Rattle.std.specs.Int.RustNames.{count_ones}
use Rattle.std.proofs.lemmas.Nat.{pow_pos, mod_below, ones_cat, mod-pow-add}
use Rattle.std.proofs.Math.Nat.{mod-eq_of_lt}
use Rattle.wah_words.specs.Places.{places}
use Rattle.wah_words.specs.Spelling.{Word, literal, fill, word_values}
use Rattle.wah_words.specs.Bytes.{decoded, decoded_all, IsLeft}
use Rattle.wah_words.specs.Left.{Left, run_values, run_of_word, Comes, Counts}
use Rattle.wah_words.specs.declared.run.Run.{Run}

one_bit : (x : ℕ) → x < 2 → cond (eqb x 1) 1 0 ≡ count_ones x
unfolding count_ones lib.Count.ones_in
one_bit zero h = refl
one_bit (suc zero) h = refl
one_bit (suc (suc x)) h = absurd (omega arith)

pub ones_cons : (b : Bool) (v : List Bool) → count_by (λ b. b) (b ∷ v) ≡ cond b 1 0 + count_by (λ b. b) v
ones_cons b v = sum_by-append (λ x. cond x 1 0) (b ∷ []) v ∙ ap (λ x. x + count_by (λ b. b) v) (zero-add (cond b 1 0))

ones_mod : (c n : ℕ) → count_by (λ b. b) (places c n) ≡ count_ones (n % 2 ^ c)
unfolding places count_ones lib.Count.ones_in
ones_mod zero n = let e : n % 2 ^ 0 ≡ 0 = omega arith in sym (ap (λ x. count_ones x) e)
ones_mod (suc c) n =
    let e : suc c ≡ 1 + c = omega arith in
    let low : n / 2 ^ c % 2 < 2 = mod_below (n / 2 ^ c) 2 (lit< tt) in
    let split : n % 2 ^ suc c ≡ (n / 2 ^ c % 2) * 2 ^ c + n % 2 ^ c = rw e (mod-pow-add n 1 c) in
    let sum = ones_cat c (n / 2 ^ c % 2) (n % 2 ^ c) (mod_below n (2 ^ c) (pow_pos c)) in
    ones_cons (eqb (n / 2 ^ c % 2) 1) (places c n) ∙ ap (λ x. x + count_by (λ b. b) (places c n)) (one_bit (n / 2 ^ c % 2) low) ∙ ap (λ x. count_ones (n / 2 ^ c % 2) + x) (ones_mod c n) ∙ sym (ap (λ x. count_ones x) split ∙ sum)

pub ones-places : (c n : ℕ) → n < 2 ^ c → count_by (λ b. b) (places c n) ≡ count_ones n
ones-places c n h = ones_mod c n ∙ ap (λ x. count_ones x) (mod-eq_of_lt h)

pub ones_true : (n : ℕ) → count_by (λ b. b) (replicate n true) ≡ n
ones_true zero = refl
ones_true (suc n) = ones_cons true (replicate n true) ∙ omega (arith, ones_true n)

pub ones_false : (n : ℕ) → count_by (λ b. b) (replicate n false) ≡ 0
ones_false zero = refl
ones_false (suc n) = ones_cons false (replicate n false) ∙ omega (arith, ones_false n)

pub ones-append : (v w : List Bool) → count_by (λ b. b) (v ++ w) ≡ count_by (λ b. b) v + count_by (λ b. b) w
ones-append v w = sum_by-append _ v w

pub ones_comes : (old : Left) (run : Run) (new : Left) → Comes old (Some run) new → count_by (λ b. b) old.values ≡ count_by (λ b. b) (run_values run) + count_by (λ b. b) new.values
ones_comes old run new h = ap (λ v. count_by (λ b. b) v) h.0 ∙ ones-append (run_values run) new.values

-- what the run that comes counts
pub counts_run : (old : Left) (run : Run) (new : Left) (n : ℕ) → Comes old (Some run) new → n ≡ count_by (λ b. b) (run_values run) → Counts old (Some n) new
counts_run old run new n h e = (ones_comes old run new h ∙ ap (λ m. m + count_by (λ b. b) new.values) (sym e), h.1)
