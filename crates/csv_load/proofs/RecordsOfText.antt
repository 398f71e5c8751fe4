-- The reads of a reader, one after the other, give the list of all the records of a text.
use Rattle.std.proofs.Common.{◌≡◌, ◌⊎◌, ◌≤◌, ◌<◌, ◌+◌, ◌*◌, ◌==◌, ◌&&◌, ℕ, zero, suc, List, [], ◌∷◌, ◌++◌, length, Option, Some, None, Bool, true, false, if◌then◌else◌, refl, ap, arith, ◌∙◌, inl, add-one, IsSome, Bor, inr, rules}
use Rattle.csv.specs.Machine.{Read, after_end, ends_at_end, ends_with, field_after, fields_after, in_field, is_byte, is_end, next_record, start_field, start_record, step, carriage_return, line_feed}
use Rattle.csv.specs.Reading.{is_bom, strip_bom, NextIs, ReadRecord, ReadsNext, default_config, is_flexible, pending_of, records_from, records_next}
use Rattle.csv.specs.declared.reader.Reader.{Reader}
use Rattle.csv_load.specs.RowsLeft.{IsPlain, bytes_left, records_left, rows_left}
use Rattle.csv_load.specs.Loaded.{text_records}
use Rattle.csv.specs.declared.parser.Config.{Config}
use Rattle.csv.specs.declared.parser.State.{State}
use Rattle.csv.specs.declared.parser.State.TheVariants as st
use Rattle.csv.specs.declared.parser.Action.{Action}
use Rattle.csv.specs.declared.parser.Terminator.{Terminator}
use Rattle.csv.specs.declared.parser.Terminator.TheVariants as term

-- a record that ended leaves the machine where no record is begun
abbrev pub Between : State → Type 0
Between s = ends_at_end s ≡ false

-- a step that ends a record leaves the machine between records
abbrev EndsBetween : State × Action → Type 0
EndsBetween p = is_end p.1 ≡ true → Between p.0

after-between : (t : Terminator) (c : ℕ) → Between (after_end t c)
after-between term.CRLF c = by (c == carriage_return)
  where
    by : (b : Bool) → Between (if b then st.AfterCr else st.StartRecord)
    by true = refl
    by false = refl
after-between (term.Any t) c = refl

-- a choice between two steps that each end between records
choice-ends : (b : Bool) (p q : State × Action) → EndsBetween p → EndsBetween q → EndsBetween (if b then p else q)
choice-ends true p q h g = h
choice-ends false p q h g = g

in_field-ends : (cfg : Config) (c : ℕ) → EndsBetween (in_field cfg c)
in_field-ends cfg c =
    choice-ends (c == cfg.delimiter) _ _ (λ e. cc e)
    (choice-ends (ends_with cfg.terminator c) _ _ (λ e. after-between cfg.terminator c) (λ e. cc e))

start_field-ends : (cfg : Config) (c : ℕ) → EndsBetween (start_field cfg c)
start_field-ends cfg c = choice-ends (cfg.quoting && (c == cfg.quote)) _ _ (λ e. cc e) (in_field-ends cfg c)

start_record-ends : (cfg : Config) (c : ℕ) → EndsBetween (start_record cfg c)
start_record-ends cfg c =
    choice-ends (ends_with cfg.terminator c) _ _ (λ e. cc e)
    (choice-ends (is_byte cfg.comment c) _ _ (λ e. cc e) (start_field-ends cfg c))

step-ends : (cfg : Config) (s : State) (c : ℕ) → EndsBetween (step cfg s c)
step-ends cfg st.StartRecord c = start_record-ends cfg c
step-ends cfg st.StartField c = start_field-ends cfg c
step-ends cfg st.InField c = in_field-ends cfg c
step-ends cfg st.InQuoted c =
    choice-ends (cfg.quoting && (c == cfg.quote)) _ _ (λ e. cc e)
    (choice-ends (cfg.quoting && is_byte cfg.escape c) _ _ (λ e. cc e) (λ e. cc e))
step-ends cfg st.InEscape c = λ e. cc e
step-ends cfg st.AfterQuote c =
    choice-ends (cfg.quoting && cfg.double_quote && (c == cfg.quote)) _ _ (λ e. cc e) (in_field-ends cfg c)
step-ends cfg st.InComment c = choice-ends (c == line_feed) _ _ (λ e. cc e) (λ e. cc e)
step-ends cfg st.AfterCr c = choice-ends (c == line_feed) _ _ (λ e. cc e) (start_record-ends cfg c)

-- the record that the end of a text gives
end-between : (b : Bool) (r p : Read) → Between r.1 → (if b then Some r else None) ≡ Some p → Between p.1 × (r.2 ≡ p.2)
end-between true r p h e =
    let same : r ≡ p = cc in
    (rw (← same) h, ap (λ (q : Read). q.2) same)
end-between false r p h e = cc

-- after a record the machine is between records, and no more bytes are left than there were
pub next-between : (cfg : Config) (s : State) (fields : List (List ℕ)) (field xs : List ℕ) (p : Read)
    → next_record cfg s fields field xs ≡ Some p → Between p.1 × (length p.2 ≤ length xs)
unfolding next_record
next-between cfg s fields field [] p e =
    let h = end-between (ends_at_end s) (fields ++ (field ∷ []), st.StartRecord, []) p refl e in
    (h.0, rw (← h.1) (omega arith))
next-between cfg s fields field (c ∷ rest) p e =
    by (is_end (step cfg s c).1) refl
    (next-between cfg (step cfg s c).0 (fields_after (step cfg s c).1 fields field) (field_after (step cfg s c).1 c field) rest p)
  where
    by : (b : Bool) → is_end (step cfg s c).1 ≡ b
        → (next_record cfg (step cfg s c).0 (fields_after (step cfg s c).1 fields field) (field_after (step cfg s c).1 c field) rest ≡ Some p
        → Between p.1 × (length p.2 ≤ length rest))
        → Between p.1 × (length p.2 ≤ length (c ∷ rest))
    by true t more =
        let d : Some (fields_after (step cfg s c).1 fields field, (step cfg s c).0, rest) ≡ Some p = rw t at e in
        let same : (fields_after (step cfg s c).1 fields field, (step cfg s c).0, rest) ≡ p = cc in
        (rw (← same) (step-ends cfg s c t), rw (← same) (omega arith))
    by false t more =
        let h = more (rw t at e) in
        (h.0, omega arith)

-- a record that is begun between records takes at least a byte
pub next-shorter : (cfg : Config) (s : State) (fields : List (List ℕ)) (field xs : List ℕ) (p : Read)
    → Between s → next_record cfg s fields field xs ≡ Some p → length p.2 < length xs
unfolding next_record
next-shorter cfg s fields field [] p b e = cc (rw b at e)
next-shorter cfg s fields field (c ∷ rest) p b e = by (is_end (step cfg s c).1) refl
  where
    by : (b : Bool) → is_end (step cfg s c).1 ≡ b → length p.2 < length (c ∷ rest)
    by true t =
        let d : Some (fields_after (step cfg s c).1 fields field, (step cfg s c).0, rest) ≡ Some p = rw t at e in
        let same : (fields_after (step cfg s c).1 fields field, (step cfg s c).0, rest) ≡ p = cc in
        rw (← same) (omega arith)
    by false t =
        let h = next-between cfg (step cfg s c).0 (fields_after (step cfg s c).1 fields field) (field_after (step cfg s c).1 c field) rest p (rw t at e) in
        omega arith

-- any count of turns above the length gives the same records
pub records_from-enough : (cfg : Config) (m n : ℕ) (s : State) (xs : List ℕ)
    → Between s → length xs < m → length xs < n → records_from cfg m s xs ≡ records_from cfg n s xs
unfolding records_from
records_from-enough cfg zero n s xs b p q = absurd (omega arith)
records_from-enough cfg (suc m) zero s xs b p q = absurd (omega arith)
records_from-enough cfg (suc m) (suc n) s xs b p q = by (next_record cfg s [] [] xs) refl (records_from-enough cfg m n)
  where
    by : (o : Option Read) → next_record cfg s [] [] xs ≡ o
        → ((s' : State) (xs' : List ℕ) → Between s' → length xs' < m → length xs' < n → records_from cfg m s' xs' ≡ records_from cfg n s' xs')
        → records_next (records_from cfg m) (next_record cfg s [] [] xs) ≡ records_next (records_from cfg n) (next_record cfg s [] [] xs)
    by None e same = rw e refl
    by (Some r) e same =
        let less = next-shorter cfg s [] [] xs r b e in
        let more = next-between cfg s [] [] xs r e in
        rw e (ap (λ t. r.0 ∷ t) (same r.1 r.2 more.0 (omega arith) (omega arith)))

-- the records left begin with the next record
pub records_left-more : (s : State) (xs : List ℕ) (p : Read) → Between s → next_record default_config s [] [] xs ≡ Some p
    → records_left (Some xs) s ≡ p.0 ∷ records_left (Some p.2) p.1
unfolding records_left records_from
records_left-more s xs p b e =
    let less = next-shorter default_config s [] [] xs p b e in
    let more = next-between default_config s [] [] xs p e in
    rw (add-one, e) (ap (λ t. p.0 ∷ t) (records_from-enough default_config (length xs) (length p.2 + 1) p.1 p.2 more.0 (omega arith) (omega arith)))

-- no record is left where there is no next one
pub records_left-end : (s : State) (xs : List ℕ) → next_record default_config s [] [] xs ≡ None → records_left (Some xs) s ≡ []
unfolding records_left records_from
records_left-end s xs e = rw (add-one, e) refl

-- a record that was begun takes a further byte, or ends where the text ends
next-goes_on : (cfg : Config) (s : State) (fields : List (List ℕ)) (field xs : List ℕ) (p : Read)
    → next_record cfg s fields field xs ≡ Some p → (length p.2 < length xs) ⊎ (p.2 ≡ [])
unfolding next_record
next-goes_on cfg s fields field [] p e =
    let h = end-between (ends_at_end s) (fields ++ (field ∷ []), st.StartRecord, []) p refl e in inr (rw (← h.1) refl)
next-goes_on cfg s fields field (c ∷ rest) p e = by (is_end (step cfg s c).1) refl
  where
    by : (b : Bool) → is_end (step cfg s c).1 ≡ b → (length p.2 < length (c ∷ rest)) ⊎ (p.2 ≡ [])
    by true t =
        let d : Some (fields_after (step cfg s c).1 fields field, (step cfg s c).0, rest) ≡ Some p = rw t at e in
        let same : (fields_after (step cfg s c).1 fields field, (step cfg s c).0, rest) ≡ p = cc in
        inl (rw (← same) (omega arith))
    by false t =
        let h = next-between cfg (step cfg s c).0 (fields_after (step cfg s c).1 fields field) (field_after (step cfg s c).1 c field) rest p (rw t at e) in
        inl (omega arith)

-- a step that ends no record
abbrev GoesOn : State × Action → Type 0
GoesOn p = is_end p.1 ≡ false

choice-goes_on : (b : Bool) (p q : State × Action) → GoesOn p → GoesOn q → GoesOn (if b then p else q)
choice-goes_on true p q h g = h
choice-goes_on false p q h g = g

start_record-goes_on : (cfg : Config) (c : ℕ) → GoesOn (start_record cfg c)
start_record-goes_on cfg c = by (ends_with cfg.terminator c) refl
  where
    by : (b : Bool) → ends_with cfg.terminator c ≡ b → GoesOn (start_record cfg c)
    by true e = rw e refl
    by false e = rw e
        (choice-goes_on (is_byte cfg.comment c) _ _ refl
        (choice-goes_on (cfg.quoting && (c == cfg.quote)) _ _ refl (choice-goes_on (c == cfg.delimiter) _ _ refl refl)))

-- no record is of one byte that ends it
between-goes_on : (cfg : Config) (s : State) (c : ℕ) → Between s → GoesOn (step cfg s c)
between-goes_on cfg st.StartRecord c b = start_record-goes_on cfg c
between-goes_on cfg st.AfterCr c b = choice-goes_on (c == line_feed) _ _ refl (start_record-goes_on cfg c)
between-goes_on cfg st.StartField c b = cc b
between-goes_on cfg st.InField c b = cc b
between-goes_on cfg st.InQuoted c b = cc b
between-goes_on cfg st.InEscape c b = refl
between-goes_on cfg st.AfterQuote c b = cc b
between-goes_on cfg st.InComment c b = cc b

-- a record that is begun between records takes at least two bytes, or ends where the text ends
pub next-takes_two : (cfg : Config) (s : State) (xs : List ℕ) (p : Read)
    → Between s → next_record cfg s [] [] xs ≡ Some p → (length p.2 + 2 ≤ length xs) ⊎ (p.2 ≡ [])
unfolding next_record
next-takes_two cfg s [] p b e = cc (rw b at e)
next-takes_two cfg s (c ∷ rest) p b e =
    by (next-goes_on cfg (step cfg s c).0 (fields_after (step cfg s c).1 [] []) (field_after (step cfg s c).1 c []) rest p (rw (between-goes_on cfg s c b) at e))
  where
    by : (length p.2 < length rest) ⊎ (p.2 ≡ []) → (length p.2 + 2 ≤ length (c ∷ rest)) ⊎ (p.2 ≡ [])
    by (inl h) = inl (omega arith)
    by (inr h) = inr h

-- where no bytes are left there is no record
records_from-none : (cfg : Config) (n : ℕ) (s : State) → Between s → records_from cfg n s [] ≡ []
unfolding records_from next_record
records_from-none cfg zero s b = refl
records_from-none cfg (suc n) s b = rw b refl

-- each record takes two bytes, but the last, which may take one
pub length-records_from : (cfg : Config) (n : ℕ) (s : State) (xs : List ℕ) → Between s → 2 * length (records_from cfg n s xs) ≤ length xs + 1
unfolding records_from
length-records_from cfg zero s xs b = omega arith
length-records_from cfg (suc n) s xs b = by (next_record cfg s [] [] xs) refl (length-records_from cfg n)
  where
    by : (o : Option Read) → next_record cfg s [] [] xs ≡ o → ((s' : State) (xs' : List ℕ) → Between s' → 2 * length (records_from cfg n s' xs') ≤ length xs' + 1)
        → 2 * length (records_next (records_from cfg n) (next_record cfg s [] [] xs)) ≤ length xs + 1
    by None e more = rw e (omega arith)
    by (Some r) e more = two (next-takes_two cfg s xs r b e)
      where
        two : (length r.2 + 2 ≤ length xs) ⊎ (r.2 ≡ []) → 2 * length (records_next (records_from cfg n) (next_record cfg s [] [] xs)) ≤ length xs + 1
        two (inl less) =
            let after = next-between cfg s [] [] xs r e in
            let rest = more r.1 r.2 after.0 in
            rw e (omega arith)
        two (inr ends) =
            let less = next-shorter cfg s [] [] xs r b e in
            let after = next-between cfg s [] [] xs r e in
            rw (e, ends, records_from-none cfg n r.1 after.0) (omega arith)

-- a reader over a slice, by what it has left
abbrev known : Bor (List ℕ) → Option (List ℕ)
known s = Some s.now

-- the bytes that are left, where they are told
told-some : (o : Option (List ℕ)) → IsSome o → (y : List ℕ) × (o ≡ Some y)
told-some None h = cc h
told-some (Some y) h = (y, refl)

-- what a read that found a record does to the records that are left
next-left : (s s2 : State) (y : List ℕ) (k : Option (List ℕ)) (f : List (List ℕ)) → Between s → ReadsNext default_config s (Some y) k true f s2
    → Between s2 × IsSome k × (records_left (Some y) s ≡ f ∷ records_left k s2)
next-left s s2 y None f b h = absurd h
next-left s s2 y (Some z) f b h = by (next_record default_config s [] [] y) refl h
  where
    by : (o : Option Read) → next_record default_config s [] [] y ≡ o → NextIs o true f s2 z
        → Between s2 × IsSome (Some z) × (records_left (Some y) s ≡ f ∷ records_left (Some z) s2)
    by None e n = cc n
    by (Some p) e n =
        (rw n.2 (next-between default_config s [] [] y p e).0, search rules, rw (n.1, n.2, n.3) (records_left-more s y p b e))

next-ends : (s s2 : State) (y : List ℕ) (k : Option (List ℕ)) (f : List (List ℕ)) → ReadsNext default_config s (Some y) k false f s2
    → records_left (Some y) s ≡ []
next-ends s s2 y None f h = absurd h
next-ends s s2 y (Some z) f h = by (next_record default_config s [] [] y) refl h
  where
    by : (o : Option Read) → next_record default_config s [] [] y ≡ o → NextIs o false f s2 z → records_left (Some y) s ≡ []
    by None e n = records_left-end s y e
    by (Some p) e n = cc n.0

-- a read that found a record gives the first of those that were left, and leaves the others
pub read-left : (a b : Reader (Bor (List ℕ))) (f : List (List ℕ)) → IsPlain a → ReadRecord known a b true f → b.first ≡ true → is_flexible b ≡ is_flexible a
    → IsPlain b × (rows_left a ≡ f ∷ rows_left b)
read-left a b f p r first free =
    let t = told-some (bytes_left a) p.told in
    let n = next-left a.state b.state t.0 (pending_of (Some b.rdr.now) b) f p.between (rw (p.config, t.1) at r.0) in
    let same : bytes_left b ≡ pending_of (Some b.rdr.now) b = rw r.1 refl in
    (record { config = r.2 ∙ p.config; trims = r.3 ∙ p.trims; flexible = free ∙ p.flexible; ready = inl first; between = n.0; told = rw same n.1 }, rw (t.1, same) n.2)

-- a read that found none comes where none was left
pub read-end : (a b : Reader (Bor (List ℕ))) (f : List (List ℕ)) → IsPlain a → ReadRecord known a b false f → rows_left a ≡ []
read-end a b f p r =
    let t = told-some (bytes_left a) p.told in
    rw t.1 (next-ends a.state b.state t.0 (pending_of (Some b.rdr.now) b) f (rw (p.config, t.1) at r.0))

-- what a read does, whether it found a record or not
pub read-either : (a b : Reader (Bor (List ℕ))) (found : Bool) (f : List (List ℕ)) → IsPlain a → ReadRecord known a b found f → b.first ≡ true → is_flexible b ≡ is_flexible a
    → (found ≡ true → IsPlain b) × (rows_left a ≡ (if found then f ∷ rows_left b else []))
read-either a b true f p r first free = let h = read-left a b f p r first free in ((λ _. h.0), h.1)
read-either a b false f p r first free = ((λ e. cc e), read-end a b f p r)

-- no byte order mark lengthens a text
length-strip_bom : (xs : List ℕ) → length (strip_bom xs) ≤ length xs
unfolding strip_bom
length-strip_bom [] = omega arith
length-strip_bom (a ∷ []) = omega arith
length-strip_bom (a ∷ b ∷ []) = omega arith
length-strip_bom (a ∷ b ∷ c ∷ rest) = by (is_bom a b c)
  where
    by : (t : Bool) → length (if t then rest else a ∷ b ∷ c ∷ rest) ≤ length (a ∷ b ∷ c ∷ rest)
    by true = omega arith
    by false = omega arith

-- a text has two bytes for each record, but perhaps one for the last
pub length-text_records : (bytes : List ℕ) → 2 * length (text_records bytes) ≤ length bytes + 1
length-text_records bytes =
    let inner = length-records_from default_config (length (strip_bom bytes) + 1) st.StartRecord (strip_bom bytes) refl in
    omega (arith, inner, length-strip_bom bytes)
