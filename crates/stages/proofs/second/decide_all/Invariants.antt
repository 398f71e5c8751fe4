use Rattle.std.proofs.Common.{◌≡◌}
use Rattle.fb_outside.specs.Reads.{AddsOnly}
use Rattle.stages.proofs.LookLemmas.{IsLookFor}
use Rattle.stages.proofs.SecondLemmas.{Decided}
use Rattle.stages.proofs.second.decide_all.Given as goal

abbrev pub invariant-loop-place : goal.invariant-loop-place
invariant-loop-place g l =
    let files = g.S.Store.files l.fn.store in
    record {
      unfailed : g.S.Store.faults l.store ≡ g.S.Store.faults l.fn.store;
      kept : g.S.Store.files l.store ≡ files;
      looks : AddsOnly (IsLookFor (g.C.Conditions.is_look l.conditions) l.atoms) (g.S.Store.reads l.fn.store) (g.S.Store.reads l.store);
      decided : Decided (g.C.Conditions.means l.conditions files) (g.C.Conditions.rows l.conditions) l.unknown l.atoms (g.S.Store.reads l.fn.store) l.fn.steps l.place l.answers.items l.checked (g.S.Store.reads l.store) l.steps;
    }
