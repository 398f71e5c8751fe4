use Rattle.std.proofs.Common.{ℤ, Bool, List, map, refl}
use Rattle.binning.specs.Spans.{has}
use Rattle.candidates.specs.Blocks.{blocks_of}
use Rattle.candidates.specs.Faults.{IsOfOutside}
use Rattle.candidates.specs.Numbers.{AreNumberTests, HasNumbers, numbers_look}
use Rattle.candidates.specs.declared.fault.FindFault.{FindFault}
use Rattle.candidates.proofs.FaultLemmas.{if_err, on_ok}
use Rattle.candidates.proofs.ReadLemmas.{adds_every}
use Rattle.candidates.proofs.numbers.numbers_found.Goals as goal

pub returns-clause-whole : goal.returns-clause-whole
returns-clause-whole g c =
    let files = g.S.Store.files c.args.store.now in
    let column = c.args.column.now in
    let spans = c.args.spans.now in
    let P : FindFault → Type 0 = λ fault. (all : List Bool) → AreNumberTests files column spans all → IsOfOutside fault in
    let Q : FindFault → Type 0 = λ fault. (numbers : List ℤ) → HasNumbers files column numbers → IsOfOutside fault in
    if_err c.find.result P Q (λ fault h numbers there. h (map (has spans) numbers) (record { numbers = numbers; there = there; are = refl })) c.find.ensures.whole

pub returns-clause-each : goal.returns-clause-each
returns-clause-each g c =
    on_ok _ _ _ (adds_every (g.S.Store.files c.args.store.now) (g.S.Store.reads c.args.store.now) (g.S.Store.reads c.find.new.store) (numbers_look c.args.column.now) (blocks_of c.args.candidates.now)) c.find.ensures.each
