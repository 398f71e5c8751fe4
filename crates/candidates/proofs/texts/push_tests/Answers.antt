use Rattle.std.proofs.Common.{◌≡◌, ◌++◌, ◌∷◌, [], Bool, List, get_or, map, take, sym, ap, ◌∙◌, arith, append_assoc}
use Rattle.std.proofs.lemmas.List.{map_more}
use Rattle.std.specs.Int.{from_bool}
use Rattle.wah_words.specs.Places.{places}
use Rattle.candidates.specs.Texts.{meets}
use Rattle.candidates.proofs.PlaceLemmas.{one_place}
use Rattle.candidates.proofs.texts.push_tests.Goals as goal

pub loop-text-preserved : goal.loop-text-preserved
loop-text-preserved c =
    let texts = c.args.texts.now in
    let i = c.loop-text.text-index in
    let old = c.args.found.now.bits in
    let test = meets c.args.condition.now in
    let text = c.text-item.result in
    let bit : c.is_met.result ≡ test (get_or texts i text) = c.is_met.ensures ∙ ap test (c.bytes.ensures ∙ c.text-item.is) in
    record {
      bits = c.push.ensures.bits
          ∙ ap (λ (bits : List Bool). bits ++ places 1 (from_bool c.is_met.result)) c.loop-text.invariant.bits
          ∙ ap (λ (bits : List Bool). (old ++ map test (take i texts)) ++ bits) (one_place c.is_met.result)
          ∙ append_assoc old (map test (take i texts)) (c.is_met.result ∷ [])
          ∙ ap (λ (bits : List Bool). old ++ bits) (ap (λ (b : Bool). map test (take i texts) ++ b ∷ []) bit ∙ sym (map_more test texts i text (omega arith)));
      rows = c.push.ensures.rows ∙ c.loop-text.invariant.rows;
    }
