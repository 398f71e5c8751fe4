use Rattle.std.proofs.Common.{◌≡◌, ℕ, List, ◌+◌, ◌-◌, ◌≤◌, ◌++◌, ◌∷◌, length, drop, Some, refl, sym, ap, ◌∙◌, arith}
use Rattle.wah_words.specs.Spelling.{literal, groups_told, word_groups}
use Rattle.wah_words.specs.Bytes.{decoded, decoded_all, numbers_at, first_wrong}
use Rattle.wah_words.proofs.WordsLemmas.{last_of, last_of-push, decoded_all-push}
use Rattle.wah_words.proofs.ReadingLemmas.{numbers_more, numbers_done, items_more, right_more, wrong_more, groups_more, word_groups_le, rest_more}
use Rattle.wah_words.proofs.reading.read_words.Goals as goal

start : (n : ℕ) (bytes : List ℕ) → numbers_at (n - 0) bytes ≡ numbers_at n bytes
start n bytes = let e : n - 0 ≡ n = omega arith in ap (λ k. numbers_at k bytes) e

pub loop-place-init : goal.loop-place-init
unfolding groups_told
loop-place-init c = rw c.in-Ok.ensures.items (record { items = start c.args.count c.args.bytes.now; right = refl; last = refl; groups = refl; few = omega arith; len = c.in-Ok.ensures.len; capacity = c.in-Ok.ensures.exact; rest = refl })

pub returns-then-is_wrong_after-clause-wrong : goal.returns-then-is_wrong_after-clause-wrong
returns-then-is_wrong_after-clause-wrong c =
    let i = c.loop-place.invariant in
    let rest = c.loop-place.rest.now in
    let word = c.number_of-word.result.0 in
    let others = numbers_at (c.args.count - (c.loop-place.place + 1)) (drop 4 rest) in
    let split : c.loop-place.regular.items ++ word ∷ others ≡ numbers_at c.args.count c.args.bytes.now = ap (λ n. c.loop-place.regular.items ++ n ∷ others) c.number_of-word.ensures.number ∙ ap (λ l. c.loop-place.regular.items ++ l) (sym (numbers_more c.args.count c.loop-place.place rest c.loop-place-test.true)) ∙ i.items in
    let place : length c.loop-place.regular.items ≡ c.loop-place.place = omega (arith, c.loop-place.regular.ok.0, i.len) in
    wrong_more c.loop-place.regular.items (numbers_at c.args.count c.args.bytes.now) word c.loop-place.last others i.right i.last (sym c.is_wrong_after.ensures ∙ c.if-is_wrong_after.true) split ∙ ap (λ k. Some k) place

pub loop-place-preserved : goal.loop-place-preserved
loop-place-preserved c =
    let i = c.loop-place.invariant in
    let items = c.loop-place.regular.items in
    let word = c.number_of-word.result.0 in
    let fits : word_groups (decoded word) ≤ 1073741824 = word_groups_le word in
    let one_more : c.from-groups.result ≡ word_groups (decoded word) = c.from-groups.ensures ∙ c.groups_of.ensures in
    rw c.push_reserved.ensures.items (record {
      items = items_more c.args.count c.loop-place.place items c.loop-place.rest.now word c.number_of-word.result.1.now (numbers_at c.args.count c.args.bytes.now) c.loop-place-test.true c.number_of-word.ensures.number c.number_of-word.ensures.rest i.items;
      right = right_more items word c.loop-place.last i.right i.last (sym c.is_wrong_after.ensures ∙ c.if-is_wrong_after.false);
      last = ap (last_of (literal 0)) (decoded_all-push items word) ∙ last_of-push (literal 0) (decoded_all items) (decoded word);
      groups = omega (arith, i.groups, one_more, groups_more items word);
      few = omega (arith, i.few, one_more, fits);
      len = omega (arith, c.push_reserved.ensures.len, i.len);
      capacity = c.push_reserved.ensures.capacity ∙ i.capacity;
      rest = c.number_of-word.ensures.rest ∙ ap (drop 4) i.rest ∙ rest_more c.loop-place.place c.args.bytes.now;
    })

pub returns-clause-regular : goal.returns-clause-regular
returns-clause-regular c =
    let i = c.loop-place.invariant in
    numbers_done c.args.count c.loop-place.place c.loop-place.regular.items c.loop-place.rest.now (numbers_at c.args.count c.args.bytes.now) (omega arith) i.items

pub returns-clause-right : goal.returns-clause-right
returns-clause-right c =
    let i = c.loop-place.invariant in
    ap (λ l. first_wrong (literal 0) (decoded_all l)) (sym (numbers_done c.args.count c.loop-place.place c.loop-place.regular.items c.loop-place.rest.now (numbers_at c.args.count c.args.bytes.now) (omega arith) i.items)) ∙ i.right

pub returns-clause-groups : goal.returns-clause-groups
returns-clause-groups c =
    let i = c.loop-place.invariant in
    i.groups ∙ ap (λ l. groups_told (decoded_all l)) (numbers_done c.args.count c.loop-place.place c.loop-place.regular.items c.loop-place.rest.now (numbers_at c.args.count c.args.bytes.now) (omega arith) i.items)
