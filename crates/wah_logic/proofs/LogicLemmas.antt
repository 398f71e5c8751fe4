-- The loops over the runs of an operation.
use Rattle.std.proofs.Common.{◌≡◌, ℕ, ◌+◌, ◌%◌, ◌<◌, Bool, List, [], ◌++◌, length, Option, Some, None, refl, sym, ap, subst, ◌∙◌, arith, append_assoc, length-append}
use Rattle.std.proofs.lemmas.List.{append-nil}
use Rattle.wah_words.specs.declared.run.Run.{Run}
use Rattle.wah_words.specs.declared.run.Run.TheVariants as runs
use Rattle.wah_words.specs.Left.{run_values}
use Rattle.wah_logic.specs.Logic.{each_place}
use Rattle.wah_logic.specs.Rest.{Rest, IsPart, Joins, Turns}
use Rattle.wah_logic.proofs.WalkLemmas.{run_length, length-run_values}
use Rattle.wah_logic.proofs.JoinLemmas.{length-each}

pub turned : (op : Bool → Bool → Bool) (a b c d : Rest) (o : Option Run) (run : Run) → o ≡ Some run → Turns op a b o c d → Turns op a b (Some run) c d
turned op a b c d o run e h = subst (λ x. Turns op a b x c d) e h

pub ended : (op : Bool → Bool → Bool) (a b c d : Rest) (o : Option Run) → o ≡ None → Turns op a b o c d → Turns op a b None c d
ended op a b c d o e h = subst (λ x. Turns op a b x c d) e h

pub part_alone : (run : Run) (u : List Bool) → IsPart run u → IsPart run []
part_alone (runs.Fill bit groups) u h = h
part_alone (runs.Literal word) u h = h
part_alone (runs.Tail bits count) u h = (h.0, h.1, h.2, refl)

-- a run that is not the last is whole groups
pub aligned_after : (run : Run) (u : List Bool) (n : ℕ) → IsPart run u → n % 31 ≡ 0 → 0 < length u → (n + run_length run) % 31 ≡ 0
aligned_after (runs.Fill bit groups) u n h e some = omega arith
aligned_after (runs.Literal word) u n h e some = omega arith
aligned_after (runs.Tail bits count) u n h e some = absurd (omega (arith, ap length h.3))

pub some_values : (run : Run) (u : List Bool) → IsPart run u → 0 < run_length run
some_values (runs.Fill bit groups) u h = omega arith
some_values (runs.Literal word) u h = omega arith
some_values (runs.Tail bits count) u h = h.0

-- what a run takes of the operands
pub length-joins : (op : Bool → Bool → Bool) (x y u v : List Bool) (run : Run) → length x ≡ length y → Joins op x y run u v → length x ≡ run_length run + length u
length-joins op x y u v run same h =
    sym (length-each op x y same) ∙ ap length h.values ∙ length-append (run_values run) (each_place op u v) ∙ omega (arith, length-run_values run, length-each op u v h.same)

-- what is out, and what is still to come
pub out_grows : (out run all rest now : List Bool) → out ++ now ≡ all → now ≡ run ++ rest → (out ++ run) ++ rest ≡ all
out_grows out run all rest now e h = append_assoc out run rest ∙ ap (λ l. out ++ l) (sym h) ∙ e

pub each_nil : (op : Bool → Bool → Bool) (x y : List Bool) → x ≡ [] → each_place op x y ≡ []
unfolding each_place
each_nil op x y e = rw e refl

-- so much is out and still to come
pub before_run : (op : Bool → Bool → Bool) (out x y a b : List Bool) → out ++ each_place op x y ≡ each_place op a b → length x ≡ length y → length a ≡ length b → length out + length x ≡ length a
before_run op out x y a b e h k = omega (arith, ap length e, length-append out (each_place op x y), length-each op x y h, length-each op a b k)

pub out_ends : (op : Bool → Bool → Bool) (out x y a b : List Bool) → x ≡ [] → out ++ each_place op x y ≡ each_place op a b → out ≡ each_place op a b
out_ends op out x y a b e h = sym (append-nil out) ∙ ap (λ l. out ++ l) (sym (each_nil op x y e)) ∙ h
