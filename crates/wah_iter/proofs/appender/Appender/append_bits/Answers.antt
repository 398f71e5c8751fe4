use Rattle.std.proofs.Common.{◌≡◌, ℕ, ◌+◌, ◌-◌, ◌*◌, ◌/◌, ◌%◌, ◌^◌, ◌<◌, length, sym, ap, ◌∙◌, arith, length-append}
use Rattle.std.proofs.lemmas.Nat.{one_shl}
use Rattle.wah_words.specs.Places.{places}
use Rattle.wah_words.proofs.PlacesLemmas.{length-places}
use Rattle.wah_iter.proofs.AppendLaws.{below_2_31, joined_below, whole_below, rest_below, same_after, cut_after, length_parts}
use Rattle.wah_iter.proofs.appender.Appender.append_bits.Goals as goal

pub joined_bits-all-requires-clause-low : goal.joined_bits-all-requires-clause-low
joined_bits-all-requires-clause-low c = below_2_31 c.self.inside.count c.self.inside.part c.self.invariant.2 c.self.invariant.1

pub overflow_cast-self : goal.overflow_cast-self
overflow_cast-self c =
    let s = c.self.inside in
    let all : c.joined_bits-all.result < 2 ^ (s.count + c.args.count) = rw c.joined_bits-all.ensures (joined_below s.count c.args.count s.part c.args.bits c.self.invariant.2 c.requires.fits) in
    omega (arith, below_2_31 (s.count + c.args.count) c.joined_bits-all.result all c.if-total-lt31.true)

pub invariant_of-self : goal.invariant_of-self
invariant_of-self c =
    let s = c.self.inside in
    let all : c.joined_bits-all.result < 2 ^ (s.count + c.args.count) = rw c.joined_bits-all.ensures (joined_below s.count c.args.count s.part c.args.bits c.self.invariant.2 c.requires.fits) in
    let len = length_parts s.out.values s.count s.part c.args.self.now.values (ap (λ a. a.values) c.self.view_is) in
    (c.self.invariant.0, c.if-total-lt31.true, all, omega (arith, len, c.requires.limit))

pub returns-then-total-lt31-clause-values : goal.returns-then-total-lt31-clause-values
returns-then-total-lt31-clause-values c =
    let s = c.self.inside in
    rw c.joined_bits-all.ensures (same_after s.out.values s.count c.args.count s.part c.args.bits c.args.self.now.values (ap (λ a. a.values) c.self.view_is) c.requires.fits)

pub overflow_cast-all : goal.overflow_cast-all
overflow_cast-all c =
    let s = c.self.inside in
    let all : c.joined_bits-all.result < 2 ^ (s.count + c.args.count) = rw c.joined_bits-all.ensures (joined_below s.count c.args.count s.part c.args.bits c.self.invariant.2 c.requires.fits) in
    omega (arith, whole_below s.count c.args.count c.joined_bits-all.result all c.if-total-lt31.false)

pub push_literal-requires-clause-room : goal.push_literal-requires-clause-room
push_literal-requires-clause-room c =
    let s = c.self.inside in
    let len = length_parts s.out.values s.count s.part c.args.self.now.values (ap (λ a. a.values) c.self.view_is) in
    let spare : c.args.self.now.spare ≡ s.out.spare = sym (ap (λ a. a.spare) c.self.view_is) in
    omega (arith, len, spare, c.requires.room, c.self.invariant.0, c.self.invariant.1, c.if-total-lt31.false)

pub push_literal-requires-clause-group : goal.push_literal-requires-clause-group
push_literal-requires-clause-group c =
    let s = c.self.inside in
    let all : c.joined_bits-all.result < 2 ^ (s.count + c.args.count) = rw c.joined_bits-all.ensures (joined_below s.count c.args.count s.part c.args.bits c.self.invariant.2 c.requires.fits) in
    whole_below s.count c.args.count c.joined_bits-all.result all c.if-total-lt31.false

pub invariant_of-self-2 : goal.invariant_of-self-2
invariant_of-self-2 c =
    let s = c.self.inside in
    let rest : ℕ = s.count + c.args.count - 31 in
    let len = length_parts s.out.values s.count s.part c.args.self.now.values (ap (λ a. a.values) c.self.view_is) in
    let group = places 31 (c.joined_bits-all.result / 2 ^ rest) in
    let new : length c.push_literal.new.self.values ≡ length s.out.values + 31 = ap length c.push_literal.ensures.values ∙ length-append s.out.values group ∙ ap (λ n. length s.out.values + n) (length-places 31 (c.joined_bits-all.result / 2 ^ rest)) in
    let shl : 1 * 2 ^ rest % 18446744073709551616 ≡ 2 ^ rest = one_shl rest 64 (omega (arith, c.requires.few, c.self.invariant.1)) in
    (omega (arith, new, c.self.invariant.0), omega (arith, c.requires.few, c.self.invariant.1), rw shl (rest_below c.joined_bits-all.result rest), omega (arith, new, len, c.requires.limit, c.if-total-lt31.false))

pub returns-clause-values : goal.returns-clause-values
returns-clause-values c =
    let s = c.self.inside in
    let rest : ℕ = s.count + c.args.count - 31 in
    let shl : 1 * 2 ^ rest % 18446744073709551616 ≡ 2 ^ rest = one_shl rest 64 (omega (arith, c.requires.few, c.self.invariant.1)) in
    let pushed = rw c.joined_bits-all.ensures at c.push_literal.ensures.values in
    rw (shl, c.joined_bits-all.ensures) (cut_after s.out.values c.push_literal.new.self.values s.count c.args.count s.part c.args.bits c.args.self.now.values (ap (λ a. a.values) c.self.view_is) pushed c.requires.fits c.if-total-lt31.false)

pub returns-clause-spare : goal.returns-clause-spare
returns-clause-spare c =
    let s = c.self.inside in
    let len = length_parts s.out.values s.count s.part c.args.self.now.values (ap (λ a. a.values) c.self.view_is) in
    let spare : c.args.self.now.spare ≡ s.out.spare = sym (ap (λ a. a.spare) c.self.view_is) in
    omega (arith, len, spare, c.self.invariant.0, c.self.invariant.1, c.if-total-lt31.false, c.push_literal.ensures.spare)
