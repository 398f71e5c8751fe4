-- A text cut into its lines, and the first wrong one of them.
use Rattle.std.proofs.Common.{◌≡◌, ◌≢◌, ℕ, ◌+◌, ◌-◌, ◌≤◌, ◌==◌, true, false, List, [], ◌∷◌, ◌++◌, length, take, drop, refl, sym, ap, ◌∙◌, subst, arith, append_assoc, ne_eqb, eqb-true, Bool, inl, inr, Result, Ok, Err, IfOk}
use Rattle.std.specs.List.{AllByRecursion}
use Rattle.std.proofs.lemmas.List.{append-nil, take_at, append_cancel_right, take-append-drop, length-append}
use Rattle.std.proofs.lemmas.List.Elements.{recursion_from_All}
use Rattle.std.proofs.lemmas.Bool.{cases_lt}
use Rattle.part_meta.specs.Faults.{Gives, Reads}
use Rattle.part_meta.specs.declared.fault.MetaTextFault.{MetaTextFault}
use Rattle.part_meta.specs.declared.fault.MetaTextFault.TheVariants.{At, OutOfMemory}
use Rattle.part_meta.specs.Lines.{IsLine, line, joined, begun_by, lines_in, IsUnbroken, Begins, IsFirstWrong}

abbrev Unbroken : List ℕ → Type 0
Unbroken bytes = AllByRecursion (λ b. b ≢ 10) bytes

by_parts : (bytes : List ℕ) → IsUnbroken bytes → Unbroken bytes
by_parts bytes h = recursion_from_All (λ b. b ≢ 10) bytes h

-- the first line of a text is what stands up to a line feed
cut_first : (text rest : List ℕ) → Unbroken text → lines_in (text ++ 10 ∷ rest) ≡ line text ∷ lines_in rest
cut_first [] rest h = refl
cut_first (b ∷ bs) rest h =
    let other : (b == 10) ≡ false = ne_eqb b 10 h.0 in
    rw (other, cut_first bs rest h.1) refl

pub lines_in-line : (text rest : List ℕ) → IsUnbroken text → lines_in (line text ++ rest) ≡ line text ∷ lines_in rest
lines_in-line text rest h = rw (append_assoc text (10 ∷ []) rest) (cut_first text rest (by_parts text h))

cut_none : (b : ℕ) (bs : List ℕ) → Unbroken (b ∷ bs) → lines_in (b ∷ bs) ≡ (b ∷ bs) ∷ []
cut_none b [] h = let other : (b == 10) ≡ false = ne_eqb b 10 h.0 in rw other refl
cut_none b (c ∷ cs) h =
    let other : (b == 10) ≡ false = ne_eqb b 10 h.0 in
    rw (other, cut_none c cs h.1) refl

-- bytes without a line feed are one line, but for no bytes
pub lines_in-unbroken : (b : ℕ) (bs : List ℕ) → IsUnbroken (b ∷ bs) → lines_in (b ∷ bs) ≡ (b ∷ bs) ∷ []
lines_in-unbroken b bs h = cut_none b bs (by_parts (b ∷ bs) h)

-- the lines make the text
begun_joined : (b : ℕ) (ls : List (List ℕ)) → joined (begun_by b ls) ≡ b ∷ joined ls
begun_joined b [] = refl
begun_joined b (l ∷ ls) = refl

feed_or : (b : ℕ) (t : Bool) (bs : List ℕ) → (b == 10) ≡ t → joined (lines_in bs) ≡ bs → joined (lines_in (b ∷ bs)) ≡ b ∷ bs
feed_or b true bs e h = let is : b ≡ 10 = eqb-true b 10 e in rw (e, h, is) refl
feed_or b false bs e h = rw (e, begun_joined b (lines_in bs), h) refl

pub joined-lines_in : (bytes : List ℕ) → joined (lines_in bytes) ≡ bytes
joined-lines_in [] = refl
joined-lines_in (b ∷ bs) = feed_or b (b == 10) bs refl (joined-lines_in bs)

-- and a text of such lines is cut into them
pub lines_in-joined : (ls : List (List ℕ)) → AllByRecursion IsLine ls → lines_in (joined ls) ≡ ls
lines_in-joined [] h = refl
lines_in-joined (l ∷ ls) h =
    rw h.0.is (lines_in-line h.0.text (joined ls) h.0.unbroken ∙ ap (λ t. line h.0.text ∷ t) (lines_in-joined ls h.1))

pub line-injective : (a b : List ℕ) → line a ≡ line b → a ≡ b
line-injective a b e = append_cancel_right a b (10 ∷ []) e

ends_broken : (text : List ℕ) → Unbroken (text ++ 10 ∷ []) → ⊥
ends_broken [] h = h.0 refl
ends_broken (b ∷ bs) h = ends_broken bs h.1

pub unbroken_is_no_line : (bytes : List ℕ) → IsUnbroken bytes → IsLine bytes → ⊥
unbroken_is_no_line bytes h l =
    ends_broken l.text (subst Unbroken l.is (by_parts bytes h))

-- a line that a list of lines has behind a front
pub line_among : (ls front : List (List ℕ)) (l : List ℕ) (rest : List (List ℕ)) → AllByRecursion IsLine ls → ls ≡ (front ++ l ∷ []) ++ rest → IsLine l
line_among [] [] l rest h e = absurd (cc)
line_among [] (f ∷ front) l rest h e = absurd (cc)
line_among (k ∷ ks) [] l rest h e = let same : k ≡ l = cc in subst IsLine same h.0
line_among (k ∷ ks) (f ∷ front) l rest h e = line_among ks front l rest h.1 (cc)

pub step_in : (front : List (List ℕ)) (l : List ℕ) (rest : List (List ℕ)) → front ++ l ∷ rest ≡ (front ++ l ∷ []) ++ rest
step_in front l rest = sym (append_assoc front (l ∷ []) rest)

length_front : (front : List (List ℕ)) (l : List ℕ) → length (front ++ l ∷ []) ≡ length front + 1
length_front front l = length-append front (l ∷ [])

-- behind a front of a text stands a line that no text has there
pub wrong_line : {A : Type 0} (IsOf : A → Type 0) (lines : A → List (List ℕ)) (bytes : List ℕ) (front : List (List ℕ)) (l : List ℕ) (rest : List (List ℕ)) (k : ℕ)
    → lines_in bytes ≡ front ++ l ∷ rest → k ≡ length front + 1 → Begins IsOf lines front → (Begins IsOf lines (front ++ l ∷ []) → ⊥) → IsFirstWrong IsOf lines bytes k
wrong_line {A} IsOf lines bytes front l rest k cut counted before wrong =
    let all : length (lines_in bytes) ≡ length front + (1 + length rest) = omega (arith, ap length cut, length-append front (l ∷ rest)) in
    let up_to : take (k - 1) (lines_in bytes) ≡ front = ap (take (k - 1)) cut ∙ take_at front (l ∷ rest) (k - 1) (omega arith) in
    let with_it : take k (lines_in bytes) ≡ front ++ l ∷ [] =
    ap (take k) (cut ∙ step_in front l rest) ∙ take_at (front ++ l ∷ []) rest k (omega (arith, length_front front l)) in
    let P : List (List ℕ) → Type 0 = λ t. Begins IsOf lines t in
    record {
      counted = (omega arith, omega arith);
      before = subst P (sym up_to) before;
      wrong = λ small begins. wrong (subst P with_it begins);
      ended = λ large x valid same. absurd (omega arith);
    }

-- a front of a text ends where no text does
pub ended_early : {A : Type 0} (IsOf : A → Type 0) (lines : A → List (List ℕ)) (bytes : List ℕ) (front : List (List ℕ)) (k : ℕ)
    → lines_in bytes ≡ front → k ≡ length front + 1 → Begins IsOf lines front → ((x : A) → IsOf x → lines x ≢ front) → IsFirstWrong IsOf lines bytes k
ended_early {A} IsOf lines bytes front k cut counted before none =
    let all : length (lines_in bytes) ≡ length front = ap length cut in
    let up_to : take (k - 1) (lines_in bytes) ≡ front = ap (take (k - 1)) (cut ∙ sym (append-nil front)) ∙ take_at front [] (k - 1) (omega arith) in
    let P : List (List ℕ) → Type 0 = λ t. Begins IsOf lines t in
    record {
      counted = (omega arith, omega arith);
      before = subst P (sym up_to) before;
      wrong = λ small begins. absurd (omega arith);
      ended = λ large x valid same. none x valid (same ∙ cut);
    }

-- a whole text has no wrong line
pub whole_is_right : {A : Type 0} (IsOf : A → Type 0) (lines : A → List (List ℕ)) (bytes : List ℕ) (k : ℕ) (x : A)
    → AllByRecursion IsLine (lines x) → IsOf x → bytes ≡ joined (lines x) → IsFirstWrong IsOf lines bytes k → ⊥
whole_is_right {A} IsOf lines bytes k x each valid is wrong =
    let cut : lines_in bytes ≡ lines x = ap lines_in is ∙ lines_in-joined (lines x) each in
    let within : k ≤ length (lines_in bytes) → ⊥ = λ small. wrong.wrong small (record {
      value = x;
      valid = valid;
      rest = drop k (lines_in bytes);
      spelled = sym cut ∙ sym (take-append-drop k (lines_in bytes));
    }) in
    elim (cases_lt (length (lines_in bytes)) k) [ inl large ↦ wrong.ended large x valid (sym cut) | inr small ↦ within small ]

-- bytes behind whole lines that no line feed ends
pub unended : {A : Type 0} (IsOf : A → Type 0) (lines : A → List (List ℕ)) (each : (x : A) → IsOf x → AllByRecursion IsLine (lines x)) (bytes : List ℕ) (front : List (List ℕ)) (rest : List ℕ) (k : ℕ)
    → lines_in bytes ≡ front ++ lines_in rest → k ≡ length front + 1 → Begins IsOf lines front → IsUnbroken rest → (length rest == 0) ≡ false → IsFirstWrong IsOf lines bytes k
unended {A} IsOf lines each bytes front [] k cut counted before unbroken some = absurd (cc)
unended {A} IsOf lines each bytes front (b ∷ bs) k cut counted before unbroken some =
    let last : lines_in (b ∷ bs) ≡ (b ∷ bs) ∷ [] = lines_in-unbroken b bs unbroken in
    wrong_line IsOf lines bytes front (b ∷ bs) [] k (cut ∙ ap (λ t. front ++ t) last) counted before
    (λ begins. unbroken_is_no_line (b ∷ bs) unbroken (line_among (lines begins.value) front (b ∷ bs) begins.rest (each begins.value begins.valid) begins.spelled))

-- ---- what a reader answers

pub reads_found : {A : Type 0} (IsOf : A → Type 0) (lines : A → List (List ℕ)) (bytes : List ℕ) (r : Result A MetaTextFault) → Reads IsOf lines bytes r → IfOk r (λ x. bytes ≡ joined (lines x))
reads_found {A} IsOf lines bytes (Ok x) h = sym (joined-lines_in bytes) ∙ ap joined h.1
reads_found {A} IsOf lines bytes (Err e) h = tt

pub reads_exact : {A : Type 0} (IsOf : A → Type 0) (lines : A → List (List ℕ)) (each : (x : A) → IsOf x → AllByRecursion IsLine (lines x)) (one : (x y : A) → IsOf x → IsOf y → lines x ≡ lines y → x ≡ y)
    (bytes : List ℕ) (r : Result A MetaTextFault) → Reads IsOf lines bytes r → (x : A) → IsOf x → bytes ≡ joined (lines x) → Gives r x
reads_exact {A} IsOf lines each one bytes (Ok y) h x valid is =
    one y x h.0 valid (sym h.1 ∙ ap lines_in is ∙ lines_in-joined (lines x) (each x valid))
reads_exact {A} IsOf lines each one bytes (Err (At k)) h x valid is = whole_is_right IsOf lines bytes k x (each x valid) valid is h
reads_exact {A} IsOf lines each one bytes (Err OutOfMemory) h x valid is = tt

-- a text has the lines of one value alone
pub one_text : {A : Type 0} (IsOf : A → Type 0) (lines : A → List (List ℕ)) (each : (x : A) → IsOf x → AllByRecursion IsLine (lines x)) (one : (x y : A) → IsOf x → IsOf y → lines x ≡ lines y → x ≡ y)
    → (x y : A) → IsOf x → IsOf y → joined (lines x) ≡ joined (lines y) → x ≡ y
one_text {A} IsOf lines each one x y h k e =
    one x y h k (sym (lines_in-joined (lines x) (each x h)) ∙ ap lines_in e ∙ lines_in-joined (lines y) (each y k))
