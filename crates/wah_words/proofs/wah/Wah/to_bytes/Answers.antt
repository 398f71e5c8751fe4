use Rattle.std.proofs.Common.{◌≡◌, ℕ, List, length, ap, sym, arith, ◌∙◌, ◌++◌, [], ◌%◌, cond, eqb}
use Rattle.wah_words.specs.Spelling.{words_of}
use Rattle.wah_words.specs.Bytes.{stored, spelling, number_bytes, words_bytes, decoded_all}
use Rattle.wah_words.proofs.StoredLemmas.{words_of-stored, items_few}
use Rattle.wah_words.proofs.BytesLemmas.{spelling-stored, active_size_le, joined_four}
use Rattle.wah_words.proofs.wah.Wah.to_bytes.Goals as goal

pub overflow_mul-count : goal.overflow_mul-count
overflow_mul-count g c = let s = c.self.inside in omega (arith, items_few s.len s.regular.items s.active c.self.invariant, c.self.invariant.within, s.regular.ok.0, c.len-count.ensures)

pub overflow_add-count : goal.overflow_add-count
overflow_add-count g c = let s = c.self.inside in omega (arith, items_few s.len s.regular.items s.active c.self.invariant, c.self.invariant.within, s.regular.ok.0, c.len-count.ensures)

pub overflow_add-count-2 : goal.overflow_add-count-2
overflow_add-count-2 g c = let s = c.self.inside in omega (arith, items_few s.len s.regular.items s.active c.self.invariant, c.self.invariant.within, s.regular.ok.0, c.len-count.ensures, c.active_size.ensures, active_size_le s.len)

pub overflow_cast-count : goal.overflow_cast-count
overflow_cast-count g c = let s = c.self.inside in omega (arith, items_few s.len s.regular.items s.active c.self.invariant, c.self.invariant.within, s.regular.ok.0, c.len-count.ensures)

pub returns-clause-bytes : goal.returns-clause-bytes
returns-clause-bytes g c =
    let s = c.self.inside in
    let a = number_bytes s.len in
    let b = number_bytes c.len-count.result in
    let w = words_bytes (decoded_all s.regular.items) in
    let t : List ℕ = cond (eqb (s.len % 31) 0) [] (number_bytes s.active) in
    let first : c.append_number.new.bytes.items ≡ a = c.append_number.ensures.items ∙ ap (λ l. l ++ a) c.in_ok-bytes.ensures.items in
    let second : c.append_number-2.new.bytes.items ≡ a ++ b = c.append_number-2.ensures.items ∙ ap (λ l. l ++ b) first in
    let third : c.append_words.new.bytes.items ≡ (a ++ b) ++ w = c.append_words.ensures.items ∙ ap (λ l. c.append_number-2.new.bytes.items ++ words_bytes (decoded_all l)) c.deref.ensures.value ∙ ap (λ l. l ++ w) second in
    let fourth : c.append_active.new.bytes.items ≡ ((a ++ b) ++ w) ++ t = c.append_active.ensures.items ∙ ap (λ l. l ++ t) third in
    let count : c.len-count.result ≡ length s.regular.items = omega (arith, c.len-count.ensures, s.regular.ok.0) in
    fourth ∙ joined_four a b w t ∙ ap (λ n. a ++ (number_bytes n ++ (w ++ t))) count ∙ sym (spelling-stored s.len s.regular.items s.active c.self.invariant) ∙ ap spelling c.self.view_is

pub returns-clause-steps : goal.returns-clause-steps
returns-clause-steps g c =
    let s = c.self.inside in
    let words : words_of c.args.self.now ≡ words_of (stored s.len s.regular.items s.active) = ap words_of (sym c.self.view_is) in
    let same : length c.deref.result.now ≡ length s.regular.items = ap length c.deref.ensures.value in
    rw words (omega (arith, words_of-stored s.len s.regular.items s.active c.self.invariant, c.append_active.ensures.steps, c.append_words.ensures.steps, same))
