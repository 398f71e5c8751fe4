use Rattle.std.proofs.Common.{◌≡◌, ap, length, subst, sym, ◌∙◌}
use Rattle.std.specs.List.{AllByRecursion}
use Rattle.std.proofs.lemmas.Result.{on_ok_weaker}
use Rattle.select_group.specs.Answer.{key_of}
use Rattle.select_group.specs.Totals.{GrowsAt, OneMore, numbers_of}
use Rattle.select_group.proofs.GroupLemmas.{one_more_by}
use Rattle.select_group.proofs.TotalLemmas.{IsSmallIf, length-numbers_of, numbers_small}
use Rattle.select_group.proofs.grouper.add_to_group.Goals as goal

told : (c : goal.After-as_slice) → c.as_slice.result.now ≡ numbers_of c.args.items.now c.args.cells.items
told c =
    let taken : c.take_numbers.new.numbers.items ≡ numbers_of c.args.items.now c.deref.result.now = c.in_ok-take_numbers.ensures in
    c.as_slice.ensures.value ∙ (taken ∙ ap (numbers_of c.args.items.now) c.deref.ensures.value)

pub put_numbers-requires-clause-numbers : goal.put_numbers-requires-clause-numbers
put_numbers-requires-clause-numbers c = ap length (told c) ∙ length-numbers_of c.args.items.now c.args.cells.items c.requires.can.one_each

pub put_numbers-requires-clause-small : goal.put_numbers-requires-clause-small
put_numbers-requires-clause-small c = subst (AllByRecursion IsSmallIf) (sym (told c)) (numbers_small c.args.items.now c.args.cells.items c.requires.can.small)

pub returns-clause-grown : goal.returns-clause-grown
returns-clause-grown c =
    let taken : c.take_numbers.new.numbers.items ≡ numbers_of c.args.items.now c.deref.result.now = c.in_ok-take_numbers.ensures in
    let numbers : c.as_slice.result.now ≡ numbers_of c.args.items.now c.args.cells.items = c.as_slice.ensures.value ∙ (taken ∙ ap (numbers_of c.args.items.now) c.deref.ensures.value) in
    let key : c.key_of-key.result ≡ key_of c.args.items.now c.args.cells.items = c.key_of-key.ensures ∙ ap (key_of c.args.items.now) c.from_vec.ensures in
    let made : GrowsAt c.args.items.now c.key_of-key.result c.as_slice.result.now c.args.groups.now.entries c.put_numbers.new.groups.entries → OneMore c.args.items.now c.args.cells.items c.args.groups.now.entries c.put_numbers.new.groups.entries =
    λ grows. one_more_by c.args.items.now c.args.cells.items c.as_slice.result.now c.args.groups.now.entries c.put_numbers.new.groups.entries numbers (subst (λ k. GrowsAt c.args.items.now k c.as_slice.result.now c.args.groups.now.entries c.put_numbers.new.groups.entries) key grows) in
    on_ok_weaker c.put_numbers.result made c.put_numbers.ensures.grown
