-- The unions of the bins up to each one.
use Rattle.std.proofs.Common.{◌≡◌, ℕ, zero, suc, ◌+◌, ◌-◌, ◌<◌, ◌≤◌, Bool, nat_le, ◌==◌, map, List, [], ◌∷◌, ◌++◌, All, length, take, get_or, get_or-take, refl, sym, ap, ◌∙◌, arith, length-append}
use Rattle.std.proofs.lemmas.Bool.Decides.{nat_tests}
use Rattle.std.proofs.lemmas.List.{length-map, length-take}
use Rattle.std.proofs.lemmas.List.Elements.{All-append}
use Rattle.std.proofs.lemmas.List.FromFn.{map-range_with_len_more, get_or-map-range_with_len}
use Rattle.std.specs.List.{range_with_len}
use Rattle.wah_logic.specs.Logic.{each_place, or}
use Rattle.binning.specs.declared.gathering.Bin.{Bin}
use Rattle.binning.specs.Members.{AreBins, union_of}
use Rattle.binning.specs.Encodings.{vectors}
use Rattle.binning.proofs.MembersLemmas.{rows_of_bin, bins-op, union_of-same}

-- the rows of bins 0 to k
abbrev pub up_to : ℕ → List Bin → ℕ → List Bool
up_to rows bins k = union_of rows (λ b. nat_le b k) (vectors bins)

-- the first n of them
pub record AreRunning (rows : ℕ) (bins : List Bin) (n : ℕ) (unions : List (List Bool)) : Type 0 where
  pub number : length unions ≡ n
  pub long : All (λ v. length v ≡ rows) unions
  pub values : AreBins rows (vectors bins) → unions ≡ map (up_to rows bins) (range_with_len 0 n)

pub none_running : (rows : ℕ) (bins : List Bin) → AreRunning rows bins 0 []
none_running rows bins = record { number = refl; long = λ k d h. absurd (omega arith); values = λ h. refl }

one_long : (rows : ℕ) (v : List Bool) → length v ≡ rows → All (λ x. length x ≡ rows) (v ∷ [])
one_long rows v h zero d l = h
one_long rows v h (suc k) d l = absurd (omega arith)

-- the next is the bin, or the last with the bin
pub Follows : List (List Bool) → Bin → List Bool → Type 0
Follows unions bin next = (length unions ≡ 0 → next ≡ bin.rows) × (0 < length unions → next ≡ each_place or (get_or unions (length unions - 1) []) bin.rows)

pub follows_from : (unions : List (List Bool)) (bin : Bin) (next : List Bool) → (length unions ≡ 0 → next ≡ bin.rows) → (0 < length unions → next ≡ each_place or (get_or unions (length unions - 1) []) bin.rows) → Follows unions bin next
unfolding Follows
follows_from unions bin next h k = (h, k)

next_up_to : (rows : ℕ) (bins : List Bin) (n : ℕ) (unions : List (List Bool)) (bin : Bin) (next : List Bool) → AreRunning rows bins n unions → AreBins rows (vectors bins) → n < length bins → bin ≡ get_or bins n bin → Follows unions bin next → next ≡ up_to rows bins n
unfolding Follows
next_up_to rows bins zero unions bin next r h l e f =
    f.0 r.number ∙ rows_of_bin rows bins 0 bin h l e ∙ union_of-same rows (λ b. b == 0) (λ b. nat_le b 0) (vectors bins) (λ b m. grind (arith, nat_tests))
next_up_to rows bins (suc n) unions bin next r h l e f =
    let last : get_or unions (length unions - 1) [] ≡ up_to rows bins n = ap (λ k. get_or unions k []) (omega (arith, r.number)) ∙ ap (λ u. get_or u n []) (r.values h) ∙ get_or-map-range_with_len (up_to rows bins) 0 (suc n) n n [] (omega arith) (omega arith) in
    f.1 (omega (arith, r.number)) ∙ ap (λ u. each_place or u bin.rows) last ∙ ap (λ u. each_place or (up_to rows bins n) u) (rows_of_bin rows bins (suc n) bin h l e)
    ∙ bins-op or refl rows (λ b. nat_le b n) (λ b. b == suc n) (vectors bins) h
    ∙ union_of-same rows (λ b. or (nat_le b n) (b == suc n)) (λ b. nat_le b (suc n)) (vectors bins) (λ b m. grind (arith, nat_tests))

pub one_more : (rows : ℕ) (bins : List Bin) (n m : ℕ) (unions : List (List Bool)) (bin : Bin) (next : List Bool) → AreRunning rows bins n unions → n < length (take m bins) → m ≤ length bins → bin ≡ get_or (take m bins) n bin → All (λ b. length b.rows ≡ rows) bins → length next ≡ length bin.rows → Follows unions bin next → AreRunning rows bins (n + 1) (unions ++ next ∷ [])
one_more rows bins n m unions bin next r inside k e each h f =
    let l : n < m = omega (arith, length-take m bins) in
    record {
      number = omega (arith, length-append unions (next ∷ []), r.number);
      long = All-append (λ v. length v ≡ rows) unions (next ∷ []) r.long (one_long rows next (h ∙ ap (λ b. length b.rows) (e ∙ get_or-take m bins n bin l) ∙ each n bin (omega arith)));
      values = λ apart. ap (λ u. u ++ next ∷ []) (r.values apart) ∙ ap (λ u. map (up_to rows bins) (range_with_len 0 n) ++ u ∷ []) (next_up_to rows bins n unions bin next r apart (omega arith) (e ∙ get_or-take m bins n bin l) f) ∙ sym (map-range_with_len_more (up_to rows bins) 0 n n (omega arith));
    }
