-- Kleene's tables over several parts.
use Rattle.std.proofs.Common.{◌≡◌, Bool, true, false, not, cond, List, [], ◌∷◌, map, refl, sym, ap, ◌∙◌}
use Rattle.std.specs.List.{list_any}
use Rattle.binning.specs.declared.against_bins.Three.{Three}
use Rattle.binning.specs.declared.against_bins.Three.TheVariants.{Yes, No, Unknown}
use Rattle.where_grammar.specs.Holds.{odd_many}
use Rattle.wah_logic.specs.Logic.{and, or, xor, and_not}
use Rattle.three_valued.specs.declared.connectives.Join.{Join}
use Rattle.three_valued.specs.declared.connectives.Join.TheVariants.{Or, Xor, And}
use Rattle.three_valued.specs.Tables.{ActsOnBounds, decided, is_no, is_possible, is_unknown, is_yes, joined, joins, three_and, three_not, three_or, three_xor, unit}

-- ---- which part comes first doesn't matter

not_not : (x : Three) → three_not (three_not x) ≡ x
not_not Yes = refl
not_not No = refl
not_not Unknown = refl

pub joins_assoc : (join : Join) (x y z : Three) → joins join (joins join x y) z ≡ joins join x (joins join y z)
joins_assoc Or Yes y z = refl
joins_assoc Or No y z = refl
joins_assoc Or Unknown Yes z = refl
joins_assoc Or Unknown No z = refl
joins_assoc Or Unknown Unknown Yes = refl
joins_assoc Or Unknown Unknown No = refl
joins_assoc Or Unknown Unknown Unknown = refl
joins_assoc Xor Unknown y z = refl
joins_assoc Xor No y z = refl
joins_assoc Xor Yes Yes z = sym (not_not z)
joins_assoc Xor Yes No z = refl
joins_assoc Xor Yes Unknown z = refl
joins_assoc And No y z = refl
joins_assoc And Yes y z = refl
joins_assoc And Unknown Yes z = refl
joins_assoc And Unknown No z = refl
joins_assoc And Unknown Unknown Yes = refl
joins_assoc And Unknown Unknown No = refl
joins_assoc And Unknown Unknown Unknown = refl

pub joins_unit : (join : Join) (x : Three) → joins join x (unit join) ≡ x
joins_unit Or Yes = refl
joins_unit Or No = refl
joins_unit Or Unknown = refl
joins_unit Xor Yes = refl
joins_unit Xor No = refl
joins_unit Xor Unknown = refl
joins_unit And Yes = refl
joins_unit And No = refl
joins_unit And Unknown = refl

-- ---- several parts

or_unknown : (y u : Bool) → three_or Unknown (cond y Yes (cond u Unknown No)) ≡ cond y Yes Unknown
or_unknown true u = refl
or_unknown false true = refl
or_unknown false false = refl

or_step : (x : Three) (y u : Bool) → joins Or x (cond y Yes (cond u Unknown No)) ≡ cond (or (is_yes x) y) Yes (cond (or (is_unknown x) u) Unknown No)
or_step Yes y u = refl
or_step No y u = refl
or_step Unknown y u = or_unknown y u

pub joined-or : {X : Type 0} (f : X → Three) (xs : List X) → joined Or (map f xs) ≡ cond (list_any (λ x. is_yes (f x)) xs) Yes (cond (list_any (λ x. is_unknown (f x)) xs) Unknown No)
unfolding joined
joined-or f [] = refl
joined-or f (x ∷ xs) = ap (joins Or (f x)) (joined-or f xs) ∙ or_step (f x) (list_any (λ x. is_yes (f x)) xs) (list_any (λ x. is_unknown (f x)) xs)

and_unknown : (n u : Bool) → three_and Unknown (cond n No (cond u Unknown Yes)) ≡ cond n No Unknown
and_unknown true u = refl
and_unknown false true = refl
and_unknown false false = refl

and_step : (x : Three) (n u : Bool) → joins And x (cond n No (cond u Unknown Yes)) ≡ cond (or (is_no x) n) No (cond (or (is_unknown x) u) Unknown Yes)
and_step Yes n u = refl
and_step No n u = refl
and_step Unknown n u = and_unknown n u

pub joined-and : {X : Type 0} (f : X → Three) (xs : List X) → joined And (map f xs) ≡ cond (list_any (λ x. is_no (f x)) xs) No (cond (list_any (λ x. is_unknown (f x)) xs) Unknown Yes)
unfolding joined
joined-and f [] = refl
joined-and f (x ∷ xs) = ap (joins And (f x)) (joined-and f xs) ∙ and_step (f x) (list_any (λ x. is_no (f x)) xs) (list_any (λ x. is_unknown (f x)) xs)

xor_yes : (u odd : Bool) → three_not (cond u Unknown (decided odd)) ≡ cond u Unknown (decided (not odd))
xor_yes true odd = refl
xor_yes false true = refl
xor_yes false false = refl

xor_step : (x : Three) (u : Bool) (truths : List Bool) → joins Xor x (cond u Unknown (decided (odd_many truths))) ≡ cond (or (is_unknown x) u) Unknown (decided (odd_many (is_yes x ∷ truths)))
xor_step Yes u truths = xor_yes u (odd_many truths)
xor_step No u truths = refl
xor_step Unknown u truths = refl

pub joined-xor : {X : Type 0} (f : X → Three) (xs : List X) → joined Xor (map f xs) ≡ cond (list_any (λ x. is_unknown (f x)) xs) Unknown (decided (odd_many (map (λ x. is_yes (f x)) xs)))
unfolding joined
joined-xor f [] = refl
joined-xor f (x ∷ xs) = ap (joins Xor (f x)) (joined-xor f xs) ∙ xor_step (f x) (list_any (λ x. is_unknown (f x)) xs) (map (λ x. is_yes (f x)) xs)

pub joined-one : (join : Join) (x : Three) → joined join (x ∷ []) ≡ x
unfolding joined
joined-one join x = joins_unit join x

-- ---- operations on vectors

pub and_acts : ActsOnBounds and three_and
and_acts = record { definite = definite; possible = possible }
  where
    definite : (x y : Three) → is_yes (three_and x y) ≡ and (is_yes x) (is_yes y)
    definite Yes y = refl
    definite No y = refl
    definite Unknown Yes = refl
    definite Unknown No = refl
    definite Unknown Unknown = refl

    possible : (x y : Three) → is_possible (three_and x y) ≡ and (is_possible x) (is_possible y)
    possible Yes y = refl
    possible No y = refl
    possible Unknown Yes = refl
    possible Unknown No = refl
    possible Unknown Unknown = refl

pub or_acts : ActsOnBounds or three_or
or_acts = record { definite = definite; possible = possible }
  where
    definite : (x y : Three) → is_yes (three_or x y) ≡ or (is_yes x) (is_yes y)
    definite Yes y = refl
    definite No y = refl
    definite Unknown Yes = refl
    definite Unknown No = refl
    definite Unknown Unknown = refl

    possible : (x y : Three) → is_possible (three_or x y) ≡ or (is_possible x) (is_possible y)
    possible Yes y = refl
    possible No y = refl
    possible Unknown Yes = refl
    possible Unknown No = refl
    possible Unknown Unknown = refl

-- exactly one part surely is, and exactly one may be
pub xor_definite : (x y : Three) → is_yes (three_xor x y) ≡ or (and_not (is_yes x) (is_possible y)) (and_not (is_yes y) (is_possible x))
xor_definite Yes Yes = refl
xor_definite Yes No = refl
xor_definite Yes Unknown = refl
xor_definite No Yes = refl
xor_definite No No = refl
xor_definite No Unknown = refl
xor_definite Unknown Yes = refl
xor_definite Unknown No = refl
xor_definite Unknown Unknown = refl

pub xor_possible : (x y : Three) → is_possible (three_xor x y) ≡ or (and_not (is_possible x) (is_yes y)) (and_not (is_possible y) (is_yes x))
xor_possible Yes Yes = refl
xor_possible Yes No = refl
xor_possible Yes Unknown = refl
xor_possible No Yes = refl
xor_possible No No = refl
xor_possible No Unknown = refl
xor_possible Unknown Yes = refl
xor_possible Unknown No = refl
xor_possible Unknown Unknown = refl

pub xor_decided : (x y : Bool) → three_xor (decided x) (decided y) ≡ decided (xor x y)
xor_decided true true = refl
xor_decided true false = refl
xor_decided false y = refl

pub not_definite : (x : Three) → is_yes (three_not x) ≡ not (is_possible x)
not_definite Yes = refl
not_definite No = refl
not_definite Unknown = refl

pub not_possible : (x : Three) → is_possible (three_not x) ≡ not (is_yes x)
not_possible Yes = refl
not_possible No = refl
not_possible Unknown = refl
