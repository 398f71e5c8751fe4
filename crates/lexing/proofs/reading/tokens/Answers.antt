use Rattle.std.proofs.Common.{◌≡◌, ◌<◌, ◌-◌, length, length-drop, sym, ap, ◌∙◌, arith}
use Rattle.std.specs.Prelude.{Ok, Err}
use Rattle.std.proofs.lemmas.Bool.Decides.{nat_tests}
use Rattle.lexing.specs.Tokens.{tokens_from}
use Rattle.lexing.proofs.Steps.{before, blank-step, wrong-step, found-step, all-read, one-more}
use Rattle.lexing.proofs.reading.tokens.Goals as goal

pub loop-rest-preserved-then-is_blank : goal.loop-rest-preserved-then-is_blank
loop-rest-preserved-then-is_blank g c =
    let rest = c.loop-rest.rest.now in
    let size = length c.args.text.now in
    let read = g.T.Lexeme.reader in
    let some : 0 < length rest = grind (arith, nat_tests) in
    let less = length-drop 1 rest in
    let same : length c.split_at.result.1.now ≡ length rest - 1 = ap length c.split_at.ensures.back ∙ less in
    record {
      so_far = c.loop-rest.invariant.so_far ∙ ap (before c.loop-rest.tokens) (blank-step read size rest some (sym c.is_blank.ensures ∙ c.if-is_blank.true) ∙ ap (tokens_from read size) (sym c.split_at.ensures.back));
      within = omega (arith, c.loop-rest.invariant.within);
    }

pub returns-in-Err : goal.returns-in-Err
returns-in-Err g c =
    let rest = c.loop-rest.rest.now in
    let size = length c.args.text.now in
    let read = g.T.Lexeme.reader in
    let some : 0 < length rest = grind (arith, nat_tests) in
    let wrong : read (size - length rest) rest ≡ Err c.in-Err.fault = sym (rw c.in-Err.is at c.in_ok-token.ensures) in
    let step : tokens_from read size rest ≡ Err c.in-Err.fault = wrong-step read size rest c.in-Err.fault some (sym c.is_blank.ensures ∙ c.if-is_blank.false) wrong in
    sym (c.loop-rest.invariant.so_far ∙ ap (before c.loop-rest.tokens) step)

pub loop-rest-smaller : goal.loop-rest-smaller
loop-rest-smaller g c =
    let rest = c.loop-rest.rest.now in
    let size = length c.args.text.now in
    let read = g.T.Lexeme.reader in
    let found : read (size - length rest) rest ≡ Ok (c.in-Ok.token, c.in-Ok.after.now) = sym (rw c.in-Ok.is at c.in_ok-token.ensures) in
    g.met.T.Lexeme.shorter (size - length rest) rest (c.in-Ok.token, c.in-Ok.after.now) found

pub loop-rest-preserved : goal.loop-rest-preserved
loop-rest-preserved g c =
    let text = c.args.text.now in
    let rest = c.loop-rest.rest.now in
    let after = c.in-Ok.after.now in
    let token = c.in-Ok.token in
    let size = length text in
    let read = g.T.Lexeme.reader in
    let some : 0 < length rest = grind (arith, nat_tests) in
    let found : read (size - length rest) rest ≡ Ok (token, after) = sym (rw c.in-Ok.is at c.in_ok-token.ensures) in
    let step = found-step read g.met.T.Lexeme.shorter size rest after token some (sym c.is_blank.ensures ∙ c.if-is_blank.false) found in
    let less = g.met.T.Lexeme.shorter (size - length rest) rest (token, after) found in
    record {
      so_far = one-more read size text rest after c.loop-rest.tokens c.push.new.self token c.loop-rest.invariant.so_far step c.in_ok-push-in-Ok.ensures.ok;
      within = omega (arith, c.loop-rest.invariant.within);
    }

pub returns : goal.returns
returns g c =
    let done : length c.loop-rest.rest.now ≡ 0 = grind (arith, nat_tests) in
    all-read g.T.Lexeme.reader (length c.args.text.now) c.args.text.now c.loop-rest.rest.now c.loop-rest.tokens c.loop-rest.invariant.so_far done
