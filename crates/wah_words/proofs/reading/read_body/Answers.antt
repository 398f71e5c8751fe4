use Rattle.std.proofs.Common.{◌≡◌, ℕ, ◌*◌, ◌/◌, ◌%◌, ◌^◌, true, false, List, cond, eqb, leb, drop, sym, ap, ◌∙◌}
use Rattle.wah_words.specs.Spelling.{groups_told}
use Rattle.wah_words.specs.Bytes.{decoded_all, numbers_at, number_at}
use Rattle.wah_words.proofs.BytesLemmas.{body_fails, body_high, body_groups, body_ok, body_stored, active_at}
use Rattle.wah_words.proofs.reading.read_body.Goals as goal

-- the active word that was read is the body's
active_is : (len m active : ℕ) (rest bytes : List ℕ) → active ≡ cond (eqb (len % 31) 0) 0 (number_at rest) → rest ≡ drop (4 * m) bytes → active ≡ active_at len m bytes
active_is len m active rest bytes a e = a ∙ ap (λ l. cond (eqb (len % 31) 0) 0 (number_at l)) e

pub returns-in-Err : goal.returns-in-Err
returns-in-Err c = body_fails c.args.len c.args.count c.args.body.now c.in-Err.fault c.in-Err.ensures.wrong

pub returns-then-is_too_high : goal.returns-then-is_too_high
returns-then-is_too_high c =
    let e = active_is c.args.len c.args.count c.active_of-active.result c.in-Ok.words.rest.now c.args.body.now c.active_of-active.ensures c.in-Ok.ensures.rest in
    let high : leb (2 ^ (c.args.len % 31)) (active_at c.args.len c.args.count c.args.body.now) ≡ true = ap (leb (2 ^ (c.args.len % 31))) (sym e) ∙ sym c.is_too_high.ensures ∙ c.if-is_too_high.true in
    body_high c.args.len c.args.count c.args.body.now c.in-Ok.ensures.right high

pub returns-then-groups-from : goal.returns-then-groups-from
returns-then-groups-from c =
    let e = active_is c.args.len c.args.count c.active_of-active.result c.in-Ok.words.rest.now c.args.body.now c.active_of-active.ensures c.in-Ok.ensures.rest in
    let low : leb (2 ^ (c.args.len % 31)) (active_at c.args.len c.args.count c.args.body.now) ≡ false = ap (leb (2 ^ (c.args.len % 31))) (sym e) ∙ sym c.is_too_high.ensures ∙ c.if-is_too_high.false in
    body_groups c.args.len c.args.count c.args.body.now c.in-Ok.ensures.right low (λ same. c.if-groups-from.true (c.in-Ok.ensures.groups ∙ same ∙ sym c.from.ensures))

pub invariant_of-vector : goal.invariant_of-vector
invariant_of-vector c =
    let e = active_is c.args.len c.args.count c.active_of-active.result c.in-Ok.words.rest.now c.args.body.now c.active_of-active.ensures c.in-Ok.ensures.rest in
    let low : leb (2 ^ (c.args.len % 31)) (active_at c.args.len c.args.count c.args.body.now) ≡ false = ap (leb (2 ^ (c.args.len % 31))) (sym e) ∙ sym c.is_too_high.ensures ∙ c.if-is_too_high.false in
    let same : groups_told (decoded_all (numbers_at c.args.count c.args.body.now)) ≡ c.args.len / 31 = sym c.in-Ok.ensures.groups ∙ c.if-groups-from.false ∙ c.from.ensures in
    rw (c.in-Ok.ensures.regular, e) (body_stored c.args.len c.args.count c.args.body.now c.requires.limit c.in-Ok.ensures.right low same)

pub returns : goal.returns
returns c =
    let e = active_is c.args.len c.args.count c.active_of-active.result c.in-Ok.words.rest.now c.args.body.now c.active_of-active.ensures c.in-Ok.ensures.rest in
    let low : leb (2 ^ (c.args.len % 31)) (active_at c.args.len c.args.count c.args.body.now) ≡ false = ap (leb (2 ^ (c.args.len % 31))) (sym e) ∙ sym c.is_too_high.ensures ∙ c.if-is_too_high.false in
    let same : groups_told (decoded_all (numbers_at c.args.count c.args.body.now)) ≡ c.args.len / 31 = sym c.in-Ok.ensures.groups ∙ c.if-groups-from.false ∙ c.from.ensures in
    rw (c.in-Ok.ensures.regular, e, c.active_size.ensures) (body_ok c.args.len c.args.count c.args.body.now c.in-Ok.ensures.right low same)
