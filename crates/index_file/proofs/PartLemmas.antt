-- The parts of a head.
use Rattle.std.proofs.Common.{◌≡◌, ℕ, List, ◌++◌, take, drop, take-append-drop, append_assoc, sym, ap, ◌∙◌}
use Rattle.std.specs.Int.{w32, to_le_bytes}
use Rattle.index_file.specs.IndexFile.{edges_bytes, front_bytes, magic, parts_bytes, places_bytes}
use Rattle.index_file.specs.declared.edge.Edge.{Edge}

-- bytes whose parts are spelled so are spelled so
pub parts_joined : (t e : ℕ) (bytes text : List ℕ) (edges : List Edge) (places : List ℕ) → take t bytes ≡ text → edges_bytes edges ≡ take e (drop t bytes)
    → places_bytes places ≡ drop e (drop t bytes) → bytes ≡ parts_bytes text edges places
unfolding parts_bytes
parts_joined t e bytes text edges places first second third =
    sym (take-append-drop t bytes) ∙ ap (λ x. take t bytes ++ x) (sym (take-append-drop e (drop t bytes)))
    ∙ ap (λ x. x ++ (take e (drop t bytes) ++ drop e (drop t bytes))) first
    ∙ ap (λ x. text ++ (x ++ drop e (drop t bytes))) (sym second)
    ∙ ap (λ x. text ++ (edges_bytes edges ++ x)) (sym third)

grouped : (a b c d e f g : List ℕ) → (((((a ++ b) ++ c) ++ d) ++ e) ++ f) ++ g ≡ a ++ (b ++ (c ++ (d ++ (e ++ (f ++ g)))))
grouped a b c d e f g = simp append_assoc

-- the first bytes, pushed one after another
pub front_joined : (b0 b1 b2 b3 b4 b5 all : List ℕ) (rows bins bitmaps text : ℕ) → b1 ≡ b0 ++ magic → b2 ≡ b1 ++ to_le_bytes w32 1 → b3 ≡ b2 ++ to_le_bytes w32 rows
    → b4 ≡ b3 ++ to_le_bytes w32 bins → b5 ≡ b4 ++ to_le_bytes w32 bitmaps → all ≡ b5 ++ to_le_bytes w32 text → all ≡ b0 ++ front_bytes rows bins bitmaps text
unfolding front_bytes
front_joined b0 b1 b2 b3 b4 b5 all rows bins bitmaps text e1 e2 e3 e4 e5 e6 =
    let v = to_le_bytes w32 1 in
    let r = to_le_bytes w32 rows in
    let n = to_le_bytes w32 bins in
    let m = to_le_bytes w32 bitmaps in
    let t = to_le_bytes w32 text in
    e6 ∙ ap (λ b. b ++ t) (e5 ∙ ap (λ b. b ++ m) (e4 ∙ ap (λ b. b ++ n) (e3 ∙ ap (λ b. b ++ r) (e2 ∙ ap (λ b. b ++ v) e1)))) ∙ grouped b0 magic v r n m t
