-- Fronts of lists of truth values, and the operation on them.
use Rattle.std.proofs.Common.{◌≡◌, ℕ, ◌+◌, ◌-◌, ◌*◌, ◌<◌, ◌≤◌, Bool, List, [], ◌++◌, length, drop, replicate, Option, Some, None, sym, ap, subst, ◌∙◌, arith, length-append}
use Rattle.std.proofs.lemmas.List.{length-replicate, drop-append-le, drop-replicate}
use Rattle.std.proofs.Math.Seq.{drop-append-add}
use Rattle.wah_words.specs.declared.run.Run.{Run}
use Rattle.wah_words.specs.declared.run.Run.TheVariants as runs
use Rattle.wah_words.specs.Left.{run_values}
use Rattle.wah_words.proofs.PlacesLemmas.{length-places}
use Rattle.wah_logic.specs.Rest.{Rest, Takes}

-- how many values a run has
abbrev pub run_length : Run → ℕ
run_length (runs.Fill bit groups) = 31 * groups
run_length (runs.Literal word) = 31
run_length (runs.Tail bits count) = count

pub length-run_values : (run : Run) → length (run_values run) ≡ run_length run
length-run_values (runs.Fill bit groups) = length-replicate (31 * groups) bit
length-run_values (runs.Literal word) = length-places 31 word
length-run_values (runs.Tail bits count) = length-places count bits

-- ---- what a turn took

pub taken : (old new : Rest) (o : Option Run) (run : Run) → o ≡ Some run → Takes old o new → Takes old (Some run) new
taken old new o run e h = subst (λ x. Takes old x new) e h

pub at_end : (old new : Rest) (o : Option Run) → o ≡ None → Takes old o new → old.values ≡ []
at_end old new o e h =
    let t = subst (λ x. Takes old x new) e h in
    t.0

pub none_taken : (old new : Rest) (o : Option Run) → o ≡ None → Takes old o new → new.values ≡ old.values
none_taken old new o e h =
    let t = subst (λ x. Takes old x new) e h in
    ap (λ r. r.values) t.1

pub length-taken : (old new : Rest) (run : Run) → Takes old (Some run) new → length old.values ≡ run_length run + length new.values
length-taken old new run h = ap length h.0 ∙ length-append (run_values run) new.values ∙ ap (λ n. n + length new.values) (length-run_values run)

-- ---- passing groups

-- a front that is no longer than what is dropped
pub passed : (x y v rest : List Bool) (n k m : ℕ) → v ≡ x ++ y → length x ≡ m → n ≡ m + k → drop n v ≡ rest → drop k y ≡ rest
passed x y v rest n k m e l s h =
    let n' : n ≡ length x + k = omega arith in
    sym (drop-append-add x y k) ∙ ap (λ i. drop i (x ++ y)) (sym n') ∙ ap (drop n) (sym e) ∙ h

-- a fill of which less is dropped
pub passed_in : (b : Bool) (y v rest : List Bool) (g n : ℕ) → v ≡ replicate (31 * g) b ++ y → n < g → drop (31 * n) v ≡ rest → replicate (31 * (g - n)) b ++ y ≡ rest
passed_in b y v rest g n e less h =
    let some : 31 * n ≤ length (replicate (31 * g) b) = omega (arith, length-replicate (31 * g) b) in
    let few : 31 * g - 31 * n ≡ 31 * (g - n) = omega arith in
    let left : drop (31 * n) (replicate (31 * g) b) ≡ replicate (31 * (g - n)) b = drop-replicate (31 * n) (31 * g) b ∙ ap (λ k. replicate k b) few in
    sym (ap (λ l. l ++ y) left) ∙ sym (drop-append-le (31 * n) (replicate (31 * g) b) y some) ∙ ap (drop (31 * n)) (sym e) ∙ h
