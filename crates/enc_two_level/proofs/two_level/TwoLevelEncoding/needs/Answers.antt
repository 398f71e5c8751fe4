use Rattle.std.proofs.Common.{◌≡◌, ℕ, ◌+◌, ◌<◌, ◌≤◌, ◌++◌, [], subst, sym, ap, ◌∙◌, append_assoc, arith, unwrap_or}
use Rattle.std.proofs.lemmas.List.{append-nil}
use Rattle.std.specs.Int.{div_ceil}
use Rattle.index_spec.specs.declared.spec.Coarse.{Coarse}
use Rattle.index_spec.specs.Counts.{coarse_count, groups_of}
use Rattle.index_spec.specs.Members.{needed, coarse_needed, coarse_bitmaps, from_to}
use Rattle.enc_two_level.specs.Levels.{one_level}
use Rattle.enc_two_level.specs.Whole.{AreWhole, end_group}
use Rattle.enc_two_level.proofs.LawLemmas.{needed_is}
use Rattle.enc_two_level.proofs.NeedsLemmas.{places_without, places_with}
use Rattle.enc_two_level.proofs.EvalLemmas.{few_places, count_of}
use Rattle.enc_two_level.proofs.two_level.TwoLevelEncoding.needs.Goals as goal

pub overflow_add-coarse-in-Some : goal.overflow_add-coarse-in-Some
overflow_add-coarse-in-Some c =
    let n = c.args.bins in
    let m = c.args.self.now.ncoarse in
    let level = c.args.self.now.coarse in
    let q : c.few_bitmaps-coarse.result ≡ coarse_bitmaps level m n = count_of level c.level-level.result.coarse m n c.div_ceil-size.result c.few_bitmaps-coarse.result c.level-level.ensures c.div_ceil-size.ensures (c.few_bitmaps-coarse.ensures ∙ ap (λ x. unwrap_or (coarse_count c.level-level.result.coarse x) 0) c.div_ceil.ensures) in
    omega (arith, q, few_places level m n (omega (arith, c.requires.order, c.requires.within)) c.requires.counted, c.in-Some.ensures.inside, c.in-Some.ensures.within, c.requires.within)

pub overflow_add-coarse-in-Some-2 : goal.overflow_add-coarse-in-Some-2
overflow_add-coarse-in-Some-2 c =
    let n = c.args.bins in
    let m = c.args.self.now.ncoarse in
    let level = c.args.self.now.coarse in
    let q : c.few_bitmaps-coarse.result ≡ coarse_bitmaps level m n = count_of level c.level-level.result.coarse m n c.div_ceil-size.result c.few_bitmaps-coarse.result c.level-level.ensures c.div_ceil-size.ensures (c.few_bitmaps-coarse.ensures ∙ ap (λ x. unwrap_or (coarse_count c.level-level.result.coarse x) 0) c.div_ceil.ensures) in
    omega (arith, q, few_places level m n (omega (arith, c.requires.order, c.requires.within)) c.requires.counted, c.in-Some.ensures.inside, c.in-Some.ensures.within, c.requires.within)

pub returns-in_ok-append_places-in-None : goal.returns-in_ok-append_places-in-None
returns-in_ok-append_places-in-None c =
    let n = c.args.bins in
    let m = c.args.self.now.ncoarse in
    let level = c.args.self.now.coarse in
    let q : c.few_bitmaps-coarse.result ≡ coarse_bitmaps level m n = count_of level c.level-level.result.coarse m n c.div_ceil-size.result c.few_bitmaps-coarse.result c.level-level.ensures c.div_ceil-size.ensures (c.few_bitmaps-coarse.ensures ∙ ap (λ x. unwrap_or (coarse_count c.level-level.result.coarse x) 0) c.div_ceil.ensures) in
    let none : end_group n (div_ceil n m) (groups_of n m) c.args.end ≤ div_ceil c.args.first (div_ceil n m) = let P : ℕ → Type 0 = λ x. end_group n x (div_ceil n x) c.args.end ≤ div_ceil c.args.first x in subst P c.div_ceil-size.ensures c.in-None.ensures in
    c.in_ok-append_places-in-None.ensures ∙ ap (λ l. l ++ from_to (c.few_bitmaps-coarse.result + c.args.first) (c.few_bitmaps-coarse.result + c.args.end)) c.new-places.ensures.items
    ∙ sym (places_without level m n c.args.first c.args.end c.few_bitmaps-coarse.result q none)

pub returns-in_ok-append_places-in-Some-2 : goal.returns-in_ok-append_places-in-Some-2
returns-in_ok-append_places-in-Some-2 c =
    let n = c.args.bins in
    let m = c.args.self.now.ncoarse in
    let level = c.args.self.now.coarse in
    let whole = c.in-Some.whole in
    let p = c.few_bitmaps-coarse.result in
    let q : p ≡ coarse_bitmaps level m n = count_of level c.level-level.result.coarse m n c.div_ceil-size.result p c.level-level.ensures c.div_ceil-size.ensures (c.few_bitmaps-coarse.ensures ∙ ap (λ x. unwrap_or (coarse_count c.level-level.result.coarse x) 0) c.div_ceil.ensures) in
    let w : AreWhole n (div_ceil n m) (groups_of n m) c.args.first c.args.end whole = let P : ℕ → Type 0 = λ x. AreWhole n x (div_ceil n x) c.args.first c.args.end whole in subst P c.div_ceil-size.ensures c.in-Some.ensures in
    let places = c.in_ok-places-in-Some.places.items in
    let fore = from_to (p + c.args.first) (p + whole.begin) in
    let aft = from_to (p + whole.after) (p + c.args.end) in
    let is : places ≡ coarse_needed level whole.groups whole.from whole.to = c.in_ok-places-in-Some.ensures ∙ ap (λ l. needed (one_level l) whole.groups whole.from whole.to) c.level-level.ensures ∙ needed_is level whole.groups whole.from whole.to in
    c.in_ok-append_places-in-Some-2.ensures ∙ ap (λ l. l ++ aft) c.in_ok-append_places-in-Some.ensures ∙ append_assoc places fore aft ∙ ap (λ l. l ++ (fore ++ aft)) is ∙ sym (places_with level m n c.args.first c.args.end p whole q w)
