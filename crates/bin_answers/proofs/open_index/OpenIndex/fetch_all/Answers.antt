use Rattle.std.proofs.Common.{◌≡◌, ◌<◌, ◌+◌, ℕ, Bool, List, [], ◌∷◌, length, map, take, drop, get_or, refl, ap, sym, subst, ◌∙◌, arith}
use Rattle.std.proofs.lemmas.List.{take_all}
use Rattle.std.proofs.lemmas.Result.{err_from_is_err_and}
use Rattle.fb_outside.proofs.ReadLemmas.{AddsOnly-same, AddsOnly-trans}
use Rattle.binning.specs.Encodings.{vectors}
use Rattle.binning.specs.Members.{bitmap}
use Rattle.bin_answers.specs.Fetched.{AreFaultless}
use Rattle.bin_answers.proofs.FetchLemmas.{all_more, cause_from, cut, fetches_less, fetches_more, fetches_none, grown, longer, sound_more, sound_none, still_bins, stop_memory, stop_more, taken_more}
use Rattle.bin_answers.proofs.open_index.OpenIndex.fetch_all.Goals as goal

pub loop-k-init : goal.loop-k-init
loop-k-init g c = record {
  unfailed = refl;
  kept = refl;
  sound = sound_none _ c.args.self.now.head;
  reads = fetches_none _ _ _ c.args.self.now.head refl;
  looks = AddsOnly-same _ _ _ refl;
  count = ap length c.in_ok-all.ensures.items;
  long = rw c.in_ok-all.ensures.items (λ k d l. absurd (omega arith));
  bitmaps = λ bins h. c.in_ok-all.ensures.items;
}

pub loop-k-preserved : goal.loop-k-preserved
loop-k-preserved g c =
    let i = c.loop-k.k-index in
    let numbers = c.args.numbers.now in
    let head = c.args.self.now.head in
    let mask = c.args.self.now.mask in
    let l : i < length numbers = omega (arith, c.loop-k-test.true) in
    let more = taken_more numbers i 0 l in
    record {
      unfailed = (rw c.in_ok-bitmap.was at c.fetch_one.ensures.cause).told (λ e. absurd cc) ∙ c.loop-k.invariant.unfailed;
      kept = c.fetch_one.ensures.files ∙ c.loop-k.invariant.kept;
      sound = sound_more _ _ head (take i numbers) (get_or numbers i 0 ∷ []) (take (i + 1) numbers) c.loop-k.invariant.kept more c.loop-k.invariant.sound c.in_ok-bitmap.ensures.exact;
      reads = fetches_more _ _ _ _ _ _ _ head (take i numbers) (get_or numbers i 0 ∷ []) [] (take (i + 1) numbers) c.loop-k.invariant.kept more (λ u. refl) (λ u. refl) c.loop-k.invariant.reads
          c.in_ok-bitmap.ensures.reads;
      looks = AddsOnly-trans _ _ _ _ c.loop-k.invariant.looks c.fetch_one.ensures.looks;
      count = longer c.loop-k.all.items _ c.in_ok-bitmap.bitmap i c.in_ok-keep.ensures c.loop-k.invariant.count;
      long = all_more (λ (v : List Bool). length v ≡ length mask) c.loop-k.all.items _ c.in_ok-bitmap.bitmap c.in_ok-keep.ensures c.loop-k.invariant.long c.in_ok-bitmap.ensures.length;
      bitmaps = λ bins h.
          grown (bitmap head.spec.encoding (length mask) (vectors bins)) (take i numbers) (take (i + 1) numbers) (get_or numbers i 0) c.loop-k.all.items _ c.in_ok-bitmap.bitmap
          c.in_ok-keep.ensures (c.loop-k.invariant.bitmaps bins h) (c.in_ok-bitmap.ensures.bitmap bins (still_bins _ _ head mask bins c.loop-k.invariant.kept h)) more;
    }

pub returns-clause-exact : goal.returns-clause-exact
returns-clause-exact g c =
    subst (λ (ns : List ℕ). AreFaultless (g.S.Store.files c.args.store.now) c.args.self.now.head ns) (take_all c.loop-k.k-index c.args.numbers.now (omega (arith, c.loop-k-test.false)))
    c.loop-k.invariant.sound

pub returns-clause-reads : goal.returns-clause-reads
returns-clause-reads g c =
    fetches_less _ _ _ _ _ c.args.self.now.head (take c.loop-k.k-index c.args.numbers.now) c.args.numbers.now
    (sym (take_all c.loop-k.k-index c.args.numbers.now (omega (arith, c.loop-k-test.false)))) (λ d. tt) c.loop-k.invariant.reads

pub returns-clause-bitmaps : goal.returns-clause-bitmaps
returns-clause-bitmaps g c = λ bins h.
    c.loop-k.invariant.bitmaps bins h
    ∙ ap (map (bitmap c.args.self.now.head.spec.encoding (length c.args.self.now.mask) (vectors bins))) (take_all c.loop-k.k-index c.args.numbers.now (omega (arith, c.loop-k-test.false)))

pub returns-in_err-bitmap-clause-exact : goal.returns-in_err-bitmap-clause-exact
returns-in_err-bitmap-clause-exact g c =
    let p = err_from_is_err_and c.from_residual-in_err-bitmap.result c.from_residual-in_err-bitmap.ensures.1 in
    let i = c.loop-k.k-index in
    let numbers = c.args.numbers.now in
    let l : i < length numbers = omega (arith, c.loop-k-test.true) in
    rw (p.1, p.2)
    (stop_more _ _ c.args.self.now.head (take i numbers) (get_or numbers i 0 ∷ []) (drop (i + 1) numbers) numbers _ c.loop-k.invariant.kept (cut numbers i 0 l) c.loop-k.invariant.sound
    c.in_err-bitmap.ensures.exact)

pub returns-in_err-bitmap-clause-looks : goal.returns-in_err-bitmap-clause-looks
returns-in_err-bitmap-clause-looks g c = AddsOnly-trans _ _ _ _ c.loop-k.invariant.looks c.fetch_one.ensures.looks

pub returns-in_err-bitmap-clause-reads : goal.returns-in_err-bitmap-clause-reads
returns-in_err-bitmap-clause-reads g c =
    let p = err_from_is_err_and c.from_residual-in_err-bitmap.result c.from_residual-in_err-bitmap.ensures.1 in
    let i = c.loop-k.k-index in
    let numbers = c.args.numbers.now in
    let l : i < length numbers = omega (arith, c.loop-k-test.true) in
    rw p.1
    (fetches_more _ _ _ _ _ _ _ c.args.self.now.head (take i numbers) (get_or numbers i 0 ∷ []) (drop (i + 1) numbers) numbers c.loop-k.invariant.kept (cut numbers i 0 l) (λ e. absurd cc) (λ e. absurd cc)
    c.loop-k.invariant.reads c.in_err-bitmap.ensures.reads)

pub returns-in_err-bitmap-clause-cause : goal.returns-in_err-bitmap-clause-cause
returns-in_err-bitmap-clause-cause g c =
    let p = err_from_is_err_and c.from_residual-in_err-bitmap.result c.from_residual-in_err-bitmap.ensures.1 in
    rw (p.1, p.2) (cause_from _ _ _ _ _ _ _ c.loop-k.invariant.unfailed c.in_err-bitmap.ensures.cause)

pub returns-in_err-keep-clause-exact : goal.returns-in_err-keep-clause-exact
returns-in_err-keep-clause-exact g c =
    let p = err_from_is_err_and c.from_residual-in_err-keep.result c.from_residual-in_err-keep.ensures.1 in
    rw p.1 (stop_memory _ c.args.self.now.head c.args.numbers.now p.0 p.2)

pub returns-in_err-keep-clause-looks : goal.returns-in_err-keep-clause-looks
returns-in_err-keep-clause-looks g c = AddsOnly-trans _ _ _ _ c.loop-k.invariant.looks c.fetch_one.ensures.looks

pub returns-in_err-keep-clause-reads : goal.returns-in_err-keep-clause-reads
returns-in_err-keep-clause-reads g c =
    let p = err_from_is_err_and c.from_residual-in_err-keep.result c.from_residual-in_err-keep.ensures.1 in
    let i = c.loop-k.k-index in
    let numbers = c.args.numbers.now in
    let l : i < length numbers = omega (arith, c.loop-k-test.true) in
    rw p.1
    (fetches_more _ _ _ _ _ _ _ c.args.self.now.head (take i numbers) (get_or numbers i 0 ∷ []) (drop (i + 1) numbers) numbers c.loop-k.invariant.kept (cut numbers i 0 l) (λ e. absurd cc) (λ e. absurd cc)
    c.loop-k.invariant.reads c.in_ok-bitmap.ensures.reads)
