use Rattle.std.proofs.Common.{◌≡◌, ℕ, List, true, false, IsUtf8, decimal, Ok, subst, sym, ap, ◌∙◌, arith}
use Rattle.std.specs.Str.Parse.{ParsesUnsigned}
use Rattle.std.proofs.lemmas.Fmt.{IsAscii-decimal, parse-decimal}
use Rattle.std.proofs.lemmas.Str.{IsUtf8-from_ascii}
use Rattle.part_meta.specs.Numbers.{begins_plainly}
use Rattle.part_meta.proofs.NumberLemmas.{decimal_begins_plainly, plainly_parsed}
use Rattle.part_meta.proofs.lines.decimal_number.Goals as goal

pub returns-then-not-begins_plainly : goal.returns-then-not-begins_plainly
returns-then-not-begins_plainly c = λ n small is.
    let plain : begins_plainly c.args.bytes.now ≡ true = ap begins_plainly is ∙ decimal_begins_plainly n (omega arith) in
    let tested : begins_plainly c.args.bytes.now ≡ false = sym c.begins_plainly.ensures ∙ c.if-not-begins_plainly.true in
    absurd (cc)

pub returns-in_default : goal.returns-in_default
returns-in_default c = λ n small is.
    c.in_default.ensures.cases.0 (subst IsUtf8 (sym is) (IsUtf8-from_ascii (decimal n) (IsAscii-decimal n (omega arith))))

pub returns-in-Ok-parse : goal.returns-in-Ok-parse
returns-in-Ok-parse c =
    let same : c.in-Ok.text.now ≡ c.args.bytes.now = c.in-Ok.ensures.cases.0 in
    let plain : begins_plainly c.args.bytes.now ≡ true = sym c.begins_plainly.ensures ∙ c.if-not-begins_plainly.false in
    let P : List ℕ → Type 0 = λ t. ParsesUnsigned {E = ℕ} 32 10 t (Ok c.in-Ok-parse.number) in
    plainly_parsed ℕ c.args.bytes.now c.in-Ok-parse.number plain (subst P same c.in-Ok-parse.ensures.value.0)

pub returns-in-Err : goal.returns-in-Err
returns-in-Err c = λ n small is.
    let read = parse-decimal 32 n c.in-Ok.text.now c.parse.result small (omega arith) (c.in-Ok.ensures.cases.0 ∙ is) c.parse.ensures.value.0 in
    absurd (cc)
