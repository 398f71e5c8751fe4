use Rattle.ibis.proofs.StepLemmas.{listing_comes, listing_looks, listing_stops}
use Rattle.ibis.proofs.ListingWorldLemmas.{lists_world}
use Rattle.ibis.proofs.listing.list.Goals as goal

pub returns-in-Err-clause-gives : goal.returns-in-Err-clause-gives
returns-in-Err-clause-gives g c = listing_stops c.args.dir.now _ c.in-Err.stop c.in-Err.ensures.finds

pub returns-clause-gives : goal.returns-clause-gives
returns-clause-gives g c =
    listing_comes c.args.dir.now (g.S.Store.files c.args.store.now) _ c.in-Ok.dataset _ c.opened.ensures.files c.in-Ok.ensures.finds c.dataset_text.ensures.gives

pub returns-clause-listed : goal.returns-clause-listed
returns-clause-listed g c =
    lists_world c.args.dir.now (g.S.Store.files c.args.store.now) _ c.requires.path
    (listing_comes c.args.dir.now (g.S.Store.files c.args.store.now) _ c.in-Ok.dataset _ c.opened.ensures.files c.in-Ok.ensures.finds c.dataset_text.ensures.gives)

pub returns-clause-reads : goal.returns-clause-reads
returns-clause-reads g c =
    listing_looks c.args.dir.now (g.S.Store.files c.args.store.now) _ c.in-Ok.dataset _ _ _ c.opened.ensures.files c.in-Ok.ensures.finds c.in-Ok.ensures.path
    c.opened.ensures.reads c.dataset_text.ensures.reads
