use Rattle.std.proofs.Common.{◌≡◌}
use Rattle.fb_outside.specs.Reads.{AddsOnly}
use Rattle.query_engine.specs.Reads.{IsPlanLook}
use Rattle.query_engine.proofs.ChoosingLemmas.{ChosenTo}
use Rattle.query_engine.proofs.choosing.choose.Given as goal

abbrev pub invariant-loop-place : goal.invariant-loop-place
invariant-loop-place g l =
    let files = g.S.Store.files l.fn.store in
    record {
      unfailed : g.S.Store.faults l.store ≡ g.S.Store.faults l.fn.store;
      kept : g.S.Store.files l.store ≡ files;
      looked : AddsOnly (IsPlanLook l.dataset l.plan) (g.S.Store.reads l.fn.store) (g.S.Store.reads l.store);
      chosen : ChosenTo files l.dataset l.plan (g.S.Store.reads l.fn.store) l.fn.steps l.place l.parts l.hits l.checked (g.S.Store.reads l.store) l.steps;
    }
