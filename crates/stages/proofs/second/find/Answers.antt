use Rattle.std.proofs.Common.{◌≡◌, sym, ◌∙◌}
use Rattle.std.proofs.lemmas.List.FromFn.{length-map-range_with_len}
use Rattle.wah_logic.specs.Logic.{ones}
use Rattle.stages.specs.Answer.{met_of}
use Rattle.stages.proofs.RowLemmas.{none_in_common}
use Rattle.stages.proofs.second.find.Goals as goal

pub returns-then-count-eq0-clause-found : goal.returns-then-count-eq0-clause-found
returns-then-count-eq0-clause-found g c m is =
    let meant = g.met.C.Conditions.meaning c.args.conditions.now (g.S.Store.files c.args.store.now) m is in
    let none : ones c.args.candidates ≡ 0 = sym c.requires.number ∙ c.if-count-eq0.true in
    sym (none_in_common c.args.candidates (met_of m c.args.atom.now) none (c.requires.length ∙ sym meant.all ∙ sym (length-map-range_with_len (λ row. m.truth row c.args.atom.now) 0 m.rows)))
