-- Bins and places, and their bytes, both ways.
use Rattle.std.proofs.Common.{◌≡◌, ℕ, ℤ, zero, suc, ◌*◌, ◌^◌, ◌<◌, List, [], ◌∷◌, ◌++◌, length, take, drop, take-append-drop, refl, sym, ap, ◌∙◌, arith, length-append, length-drop, append-nil}
use mir.Syntax.{w64, w128}
use mir.Val.{SFits}
use Rattle.std.specs.Int.{to_le_bytes, from_le_bytes}
use Rattle.std.specs.List.{AllByRecursion}
use Rattle.std.proofs.Math.Seq.{take-append_seam, drop-append_seam}
use Rattle.std.proofs.lemmas.List.{length-take-le}
use Rattle.index_file.specs.IndexFile.{EdgeFits, edge_bytes, edges_bytes, end_bytes, places_bytes}
use Rattle.index_file.specs.Opening.{edge_at, edges_at, end_at, places_at}
use Rattle.index_file.specs.declared.edge.Edge.{Edge}
use Rattle.index_file.proofs.NumberLemmas.{AreBytes, AreBytes-take, AreBytes-drop, wide_64, number_front, number_rest, signed_again, signed_back}

take-front : (n : ℕ) (xs ys : List ℕ) → length xs ≡ n → take n (xs ++ ys) ≡ xs
take-front n xs ys h = ap (λ k. take k (xs ++ ys)) (sym h) ∙ take-append_seam xs ys

drop-front : (n : ℕ) (xs ys : List ℕ) → length xs ≡ n → drop n (xs ++ ys) ≡ ys
drop-front n xs ys h = ap (λ k. drop k (xs ++ ys)) (sym h) ∙ drop-append_seam xs ys

-- ---- one bin

length-end : (v : ℤ) → length (end_bytes v) ≡ 16
unfolding end_bytes
length-end v = refl

end_again : (v : ℤ) → SFits w128 v → end_at (end_bytes v) ≡ v
unfolding end_at end_bytes
end_again v h = signed_again v h

end_back : (bytes : List ℕ) → length bytes ≡ 16 → AreBytes bytes → end_bytes (end_at bytes) ≡ bytes
unfolding end_at end_bytes
end_back bytes l h = signed_back bytes l h

length-edge : (edge : Edge) → length (edge_bytes edge) ≡ 32
length-edge edge =
    length-append (end_bytes edge.least) (end_bytes edge.greatest) ∙ omega (arith, length-end edge.least, length-end edge.greatest)

edge_again : (edge : Edge) → EdgeFits edge → edge_at (edge_bytes edge) ≡ edge
edge_again edge h =
    let first = take-front 16 (end_bytes edge.least) (end_bytes edge.greatest) (length-end edge.least) in
    let rest = drop-front 16 (end_bytes edge.least) (end_bytes edge.greatest) (length-end edge.least) in
    let all : take 16 (end_bytes edge.greatest) ≡ end_bytes edge.greatest =
    ap (take 16) (sym (append-nil (end_bytes edge.greatest))) ∙ take-front 16 (end_bytes edge.greatest) [] (length-end edge.greatest) in
    let least : end_at (take 16 (edge_bytes edge)) ≡ edge.least = ap end_at first ∙ end_again edge.least h.0 in
    let greatest : end_at (take 16 (drop 16 (edge_bytes edge))) ≡ edge.greatest = ap (λ bs. end_at (take 16 bs)) rest ∙ ap end_at all ∙ end_again edge.greatest h.1 in
    λ i. record { least = least i; greatest = greatest i }

edge_back : (bytes : List ℕ) → length bytes ≡ 32 → AreBytes bytes → edge_bytes (edge_at bytes) ≡ bytes
edge_back bytes l h =
    let first : length (take 16 bytes) ≡ 16 = length-take-le 16 bytes (omega arith) in
    let half : length (drop 16 bytes) ≡ 16 = omega (arith, length-drop 16 bytes) in
    let all : take 16 (drop 16 bytes) ≡ drop 16 bytes =
    ap (take 16) (sym (append-nil (drop 16 bytes))) ∙ take-front 16 (drop 16 bytes) [] half in
    ap (λ x. x ++ end_bytes (end_at (take 16 (drop 16 bytes)))) (end_back (take 16 bytes) first (AreBytes-take 16 bytes h))
    ∙ ap (λ x. take 16 bytes ++ end_bytes (end_at x)) all
    ∙ ap (λ x. take 16 bytes ++ x) (end_back (drop 16 bytes) half (AreBytes-drop 16 bytes h))
    ∙ take-append-drop 16 bytes

-- ---- bins

pub edges_cons : (edge : Edge) (edges : List Edge) → edges_bytes (edge ∷ edges) ≡ edge_bytes edge ++ edges_bytes edges
unfolding edges_bytes
edges_cons edge edges = refl

pub edges_nil : edges_bytes [] ≡ []
unfolding edges_bytes
edges_nil = refl

edges_more : (n : ℕ) (bytes : List ℕ) → edges_at (suc n) bytes ≡ edge_at (take 32 bytes) ∷ edges_at n (drop 32 bytes)
unfolding edges_at
edges_more n bytes = refl

edges_none : (bytes : List ℕ) → edges_at 0 bytes ≡ []
unfolding edges_at
edges_none bytes = refl

pub length-edges_bytes : (edges : List Edge) → length (edges_bytes edges) ≡ 32 * length edges
length-edges_bytes [] = ap length edges_nil ∙ omega arith
length-edges_bytes (e ∷ es) =
    ap length (edges_cons e es) ∙ length-append (edge_bytes e) (edges_bytes es) ∙ omega (arith, length-edge e, length-edges_bytes es)

-- bins are read back from their bytes
pub edges_again : (edges : List Edge) → AllByRecursion EdgeFits edges → edges_at (length edges) (edges_bytes edges) ≡ edges
edges_again [] h = edges_none (edges_bytes [])
edges_again (e ∷ es) h =
    let n = length es in
    edges_more n (edges_bytes (e ∷ es))
    ∙ ap (λ l. edge_at (take 32 l) ∷ edges_at n (drop 32 l)) (edges_cons e es)
    ∙ ap (λ l. edge_at l ∷ edges_at n (drop 32 (edge_bytes e ++ edges_bytes es))) (take-front 32 (edge_bytes e) (edges_bytes es) (length-edge e))
    ∙ ap (λ l. edge_at (edge_bytes e) ∷ edges_at n l) (drop-front 32 (edge_bytes e) (edges_bytes es) (length-edge e))
    ∙ ap (λ x. x ∷ edges_at n (edges_bytes es)) (edge_again e h.0)
    ∙ ap (λ l. e ∷ l) (edges_again es h.1)

-- bytes are written back from the bins that they spell
pub edges_back : (n : ℕ) (bytes : List ℕ) → length bytes ≡ 32 * n → AreBytes bytes → edges_bytes (edges_at n bytes) ≡ bytes
edges_back zero [] size h = ap edges_bytes (edges_none []) ∙ edges_nil
edges_back zero (b ∷ bs) size h = absurd (omega arith)
edges_back (suc n) bytes size h =
    let front : length (take 32 bytes) ≡ 32 = length-take-le 32 bytes (omega arith) in
    let rest : length (drop 32 bytes) ≡ 32 * n = omega (arith, length-drop 32 bytes) in
    ap edges_bytes (edges_more n bytes) ∙ edges_cons (edge_at (take 32 bytes)) (edges_at n (drop 32 bytes))
    ∙ ap (λ l. l ++ edges_bytes (edges_at n (drop 32 bytes))) (edge_back (take 32 bytes) front (AreBytes-take 32 bytes h))
    ∙ ap (λ l. take 32 bytes ++ l) (edges_back n (drop 32 bytes) rest (AreBytes-drop 32 bytes h))
    ∙ take-append-drop 32 bytes

-- ---- places

places_cons : (p : ℕ) (ps : List ℕ) → places_bytes (p ∷ ps) ≡ to_le_bytes w64 p ++ places_bytes ps
unfolding places_bytes
places_cons p ps = refl

places_nil : places_bytes [] ≡ []
unfolding places_bytes
places_nil = refl

places_more : (n : ℕ) (bytes : List ℕ) → places_at (suc n) bytes ≡ from_le_bytes w64 (take 8 bytes) ∷ places_at n (drop 8 bytes)
unfolding places_at
places_more n bytes = refl

places_none : (bytes : List ℕ) → places_at 0 bytes ≡ []
unfolding places_at
places_none bytes = refl

pub length-places_bytes : (ps : List ℕ) → length (places_bytes ps) ≡ 8 * length ps
length-places_bytes [] = ap length places_nil ∙ omega arith
length-places_bytes (p ∷ ps) =
    ap length (places_cons p ps) ∙ length-append (to_le_bytes w64 p) (places_bytes ps) ∙ omega (arith, wide_64.size_is p, length-places_bytes ps)

pub places_again : (ps : List ℕ) → AllByRecursion (λ p. p < 2 ^ 64) ps → places_at (length ps) (places_bytes ps) ≡ ps
places_again [] h = places_none (places_bytes [])
places_again (p ∷ ps) h =
    let n = length ps in
    places_more n (places_bytes (p ∷ ps))
    ∙ ap (λ l. from_le_bytes w64 (take 8 l) ∷ places_at n (drop 8 l)) (places_cons p ps)
    ∙ ap (λ q. q ∷ places_at n (drop 8 (to_le_bytes w64 p ++ places_bytes ps))) (number_front w64 8 wide_64 p (places_bytes ps) h.0)
    ∙ ap (λ l. p ∷ places_at n l) (number_rest w64 8 wide_64 p (places_bytes ps))
    ∙ ap (λ l. p ∷ l) (places_again ps h.1)

pub places_back : (n : ℕ) (bytes : List ℕ) → length bytes ≡ 8 * n → AreBytes bytes → places_bytes (places_at n bytes) ≡ bytes
places_back zero [] size h = ap places_bytes (places_none []) ∙ places_nil
places_back zero (b ∷ bs) size h = absurd (omega arith)
places_back (suc n) bytes size h =
    let front : length (take 8 bytes) ≡ 8 = length-take-le 8 bytes (omega arith) in
    let rest : length (drop 8 bytes) ≡ 8 * n = omega (arith, length-drop 8 bytes) in
    ap places_bytes (places_more n bytes) ∙ places_cons (from_le_bytes w64 (take 8 bytes)) (places_at n (drop 8 bytes))
    ∙ ap (λ l. l ++ places_bytes (places_at n (drop 8 bytes))) (wide_64.written (take 8 bytes) front (AreBytes-take 8 bytes h))
    ∙ ap (λ l. take 8 bytes ++ l) (places_back n (drop 8 bytes) rest (AreBytes-drop 8 bytes h))
    ∙ take-append-drop 8 bytes
