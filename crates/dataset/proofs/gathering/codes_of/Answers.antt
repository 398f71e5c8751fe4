use Rattle.std.proofs.Common.{◌≡◌, ◌<◌, ◌≤◌, ◌+◌, ◌++◌, ◌∷◌, [], ℤ, pos, List, All, length, map, take, arith, sym, subst, ap, ◌∙◌, to_z, of_z}
use Rattle.std.proofs.lemmas.Int.{to_z-of_z}
use Rattle.std.specs.Int.{w128}
use Rattle.std.proofs.lemmas.List.{take_all, take_more}
use Rattle.std.proofs.lemmas.List.Elements.{All-push}
use Rattle.fb_types.specs.declared.cells.Cell.TheVariants.{Null}
use Rattle.fb_types.specs.declared.types.ColType.TheVariants.{Category}
use Rattle.column_file.specs.Values.{ValueFits}
use Rattle.world.specs.Cells.{code_of, dictionary_of}
use Rattle.dataset.specs.WrittenColumns.{cell_of, with_cell}
use Rattle.dataset.proofs.CellLemmas.{mapped_more}
use Rattle.dataset.proofs.CodeLemmas.{AllCoded, all_coded_kept, all_coded_more, code_fits, code_is, codes_same, dictionary_more, length-with_cell}
use Rattle.dataset.proofs.gathering.codes_of.Goals as goal

pub code_at-requires-clause-few : goal.code_at-requires-clause-few
code_at-requires-clause-few c = omega (arith, c.loop-row.invariant.few, c.len-rows.ensures.few, c.len-rows.ensures.len)

pub loop-row-preserved : goal.loop-row-preserved
loop-row-preserved c =
    let cells = c.args.part.now.cells in
    let row = c.loop-row.row in
    let inv = c.loop-row.invariant in
    let cell = cell_of c.args.part.now row in
    let words = c.loop-row.words in
    let new = c.code_at.new.words in
    let code = c.in_ok-code.code in
    let more : row < length cells = omega (arith, c.len-rows.ensures.len) in
    let seen : take (row + 1) cells ≡ take row cells ++ cell ∷ [] = take_more cells row Null more in
    let grown : new ≡ with_cell words cell = c.in_ok-code.ensures.words in
    let number : to_z w128 (of_z w128 c.from.result) ≡ pos code = to_z-of_z w128 c.from.result (record { sfits = c.from.type_inv }) ∙ c.from.ensures in
    let pushed : c.push.new.self.items ≡ c.loop-row.codes.items ++ pos code ∷ [] =
    c.in_ok-push.ensures.items ∙ ap (λ (z : ℤ). c.loop-row.codes.items ++ z ∷ []) number in
    record {
      words = grown ∙ ap (λ ws. with_cell ws cell) inv.words ∙ sym (dictionary_more (take row cells) cell) ∙ ap dictionary_of (sym seen);
      codes = pushed ∙ ap (λ (z : ℤ). c.loop-row.codes.items ++ z ∷ []) (code_is new cell code c.in_ok-code.ensures.code)
          ∙ ap (λ (front : List ℤ). front ++ code_of new cell ∷ [])
          (inv.codes ∙ sym (codes_same words cell (take row cells) inv.coded) ∙ ap (λ ws. map (code_of ws) (take row cells)) (sym grown))
          ∙ sym (mapped_more (code_of new) cells row Null more);
      coded = subst (AllCoded new) (sym seen) (all_coded_more new (take row cells) cell code
          (subst (λ ws. AllCoded ws (take row cells)) (sym grown) (all_coded_kept words cell (take row cells) inv.coded)) c.in_ok-code.ensures.code);
      few = let one = length-with_cell words cell in let same = ap length grown in omega (arith, inv.few, one, same);
      fit = subst (All (λ (z : ℤ). ValueFits z Category)) (sym pushed)
          (All-push (λ (z : ℤ). ValueFits z Category) c.loop-row.codes.items (pos code) inv.fit (code_fits code (omega arith)));
    }

pub returns-clause-words : goal.returns-clause-words
returns-clause-words c =
    let all : length c.args.part.now.cells ≤ c.loop-row.row = omega (arith, c.len-rows.ensures.len) in
    c.loop-row.invariant.words ∙ ap dictionary_of (take_all c.loop-row.row c.args.part.now.cells all)

pub returns-clause-codes : goal.returns-clause-codes
returns-clause-codes c =
    let cells = c.args.part.now.cells in
    let all : length cells ≤ c.loop-row.row = omega (arith, c.len-rows.ensures.len) in
    let same = take_all c.loop-row.row cells all in
    c.loop-row.invariant.codes ∙ ap (λ words. map (code_of words) (take c.loop-row.row cells)) (c.loop-row.invariant.words ∙ ap dictionary_of same)
    ∙ ap (map (code_of (dictionary_of cells))) same
