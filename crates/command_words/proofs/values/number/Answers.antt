use Rattle.std.proofs.Common.{◌≡◌, ◌<◌, ◌^◌, Some, None, min, option_map, sym, ◌∙◌, arith}
use Rattle.fb_types.specs.Field.{natural_of}
use Rattle.command_words.proofs.NumberLemmas.{number_of-long, number_of-natural}
use Rattle.command_words.proofs.values.number.Goals as goal

pub returns-then-word-gt18-clause-number : goal.returns-then-word-gt18-clause-number
returns-then-word-gt18-clause-number c = sym (number_of-long c.args.word.now (omega arith))

pub returns-in_err-number-clause-number : goal.returns-in_err-number-clause-number
returns-in_err-number-clause-number c =
    let none : None ≡ option_map (λ n. min n (2 ^ 64)) (natural_of c.args.word.now) =
    rw c.as_bytes.ensures.value at c.in_err-number.ensures in
    c.from_residual.ensures ∙ (number_of-natural c.args.word.now None (omega arith) none).0

pub overflow_cast-result : goal.overflow_cast-result
overflow_cast-result c =
    let some : Some c.in_ok-number.number ≡ option_map (λ n. min n (2 ^ 64)) (natural_of c.args.word.now) =
    rw c.as_bytes.ensures.value at c.in_ok-number.ensures in
    let below : c.in_ok-number.number < 10 ^ 18 = (number_of-natural c.args.word.now _ (omega arith) some).1 in
    omega arith

pub returns-clause-number : goal.returns-clause-number
returns-clause-number c =
    let some : Some c.in_ok-number.number ≡ option_map (λ n. min n (2 ^ 64)) (natural_of c.args.word.now) =
    rw c.as_bytes.ensures.value at c.in_ok-number.ensures in
    (number_of-natural c.args.word.now _ (omega arith) some).0

pub returns-clause-short : goal.returns-clause-short
returns-clause-short c =
    let some : Some c.in_ok-number.number ≡ option_map (λ n. min n (2 ^ 64)) (natural_of c.args.word.now) =
    rw c.as_bytes.ensures.value at c.in_ok-number.ensures in
    (number_of-natural c.args.word.now _ (omega arith) some).1
