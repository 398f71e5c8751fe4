use Rattle.std.proofs.Common.{◌≡◌, None, [], ◌∷◌, refl, sym, subst}
use Rattle.fb_outside.proofs.ReadLemmas.{AddsOnly-read}
use Rattle.index_file.specs.Places.{bitmap_look}
use Rattle.bin_answers.specs.Fetched.{StopsIn}
use Rattle.bin_answers.specs.declared.fault.BinsFault.{BinsFault}
use Rattle.bin_answers.proofs.FetchLemmas.{one_look, one_look_yet, one_sound, one_stops}
use Rattle.bin_answers.proofs.open_index.OpenIndex.fetch_one.Goals as goal

pub returns-in-Ok-clause-exact : goal.returns-in-Ok-clause-exact
returns-in-Ok-clause-exact g c = one_sound _ c.args.self.now.head c.args.k c.in-Ok.bitmap c.in-Ok.ensures.exact

pub returns-in-Ok-clause-reads : goal.returns-in-Ok-clause-reads
returns-in-Ok-clause-reads g c = one_look _ _ _ c.args.self.now.head c.args.k (c.in-Ok.ensures.once (λ e. absurd cc))

pub returns-in-Err-clause-exact : goal.returns-in-Err-clause-exact
returns-in-Err-clause-exact g c =
    subst (λ (f : BinsFault). StopsIn (g.S.Store.files c.args.store.now) c.args.self.now.head (c.args.k ∷ []) f) (sym c.of_index.ensures)
    (one_stops _ c.args.self.now.head c.args.k c.in-Err.fault c.in-Err.ensures.exact)

pub returns-in-Err-clause-reads : goal.returns-in-Err-clause-reads
returns-in-Err-clause-reads g c = one_look_yet _ _ _ c.args.self.now.head c.args.k (λ e. absurd cc) c.fetch.ensures.reads

pub returns-in-Ok-clause-looks : goal.returns-in-Ok-clause-looks
returns-in-Ok-clause-looks g c =
    let head = c.args.self.now.head in
    AddsOnly-read (λ look. look.name ≡ head.name) None (g.S.Store.reads c.args.store.now) (g.S.Store.reads c.fetch.new.store) (bitmap_look head.name head.offsets c.args.k) refl c.fetch.ensures.reads

pub returns-in-Err-clause-looks : goal.returns-in-Err-clause-looks
returns-in-Err-clause-looks g c =
    let head = c.args.self.now.head in
    AddsOnly-read (λ look. look.name ≡ head.name) None (g.S.Store.reads c.args.store.now) (g.S.Store.reads c.fetch.new.store) (bitmap_look head.name head.offsets c.args.k) refl c.fetch.ensures.reads
