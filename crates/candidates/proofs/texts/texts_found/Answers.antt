use Rattle.std.proofs.Common.{◌≡◌, ℕ, Bool, List, length, map, refl, sym, ◌∙◌}
use Rattle.std.proofs.lemmas.List.{length-map}
use Rattle.wah_logic.specs.Logic.{and, each_place}
use Rattle.candidates.specs.Faults.{IsOfOutside}
use Rattle.candidates.specs.Texts.{AreTextTests, HasTexts, meets}
use Rattle.candidates.specs.declared.fault.FindFault.{FindFault}
use Rattle.candidates.proofs.FaultLemmas.{if_err, if_ok}
use Rattle.candidates.proofs.TextLemmas.{text_rows}
use Rattle.candidates.proofs.texts.texts_found.Goals as goal

pub returns-clause-found : goal.returns-clause-found
returns-clause-found g c =
    let files = g.S.Store.files c.args.store.now in
    let opened = c.args.text.now in
    let condition = c.args.condition.now in
    let rows = c.args.candidates.now in
    let P : List Bool → Type 0 = λ v. (all : List Bool) → AreTextTests files opened condition all → length all ≡ length rows → v ≡ each_place and rows all in
    let Q : List Bool → Type 0 = λ v. (texts : List (List ℕ)) → HasTexts files opened texts → v ≡ each_place and rows (map (meets condition) texts) in
    if_ok c.find.result P Q (λ v h texts there. h (map (meets condition) texts) (record { texts = texts; there = there; are = refl })
    (length-map texts (meets condition) ∙ text_rows files opened texts there ∙ sym c.requires)) c.find.ensures.found

pub returns-clause-whole : goal.returns-clause-whole
returns-clause-whole g c =
    let files = g.S.Store.files c.args.store.now in
    let opened = c.args.text.now in
    let condition = c.args.condition.now in
    let P : FindFault → Type 0 = λ fault. (all : List Bool) → AreTextTests files opened condition all → IsOfOutside fault in
    let Q : FindFault → Type 0 = λ fault. (texts : List (List ℕ)) → HasTexts files opened texts → IsOfOutside fault in
    if_err c.find.result P Q (λ fault h texts there. h (map (meets condition) texts) (record { texts = texts; there = there; are = refl })) c.find.ensures.whole
