use Rattle.std.proofs.Common.{◌≡◌}
use Rattle.fb_outside.specs.Reads.{AddsOnly}
use Rattle.stages.proofs.FirstLemmas.{Settles}
use Rattle.stages.proofs.LookLemmas.{IsLookFor}
use Rattle.stages.proofs.first.settle_all.Given as goal

abbrev pub invariant-loop-place : goal.invariant-loop-place
invariant-loop-place g l =
    let files = g.S.Store.files l.fn.store in
    record {
      unfailed : g.S.Store.faults l.store ≡ g.S.Store.faults l.fn.store;
      kept : g.S.Store.files l.store ≡ files;
      looks : AddsOnly (IsLookFor (g.C.Conditions.is_look l.conditions) l.atoms) (g.S.Store.reads l.fn.store) (g.S.Store.reads l.store);
      settled : Settles (g.C.Conditions.means l.conditions files) (g.C.Conditions.is_open l.conditions files) (g.C.Conditions.rows l.conditions) l.atoms (g.S.Store.reads l.fn.store) l.fn.steps l.place l.answers.items l.opened.items (g.S.Store.reads l.store) l.steps;
    }
