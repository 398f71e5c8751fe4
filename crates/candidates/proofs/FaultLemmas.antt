-- What a fault of a file is as one of candidates.
use Rattle.std.proofs.Common.{◌≡◌, ◌*◌, ℕ, List, Option, Some, Result, Ok, Err, length, slice_index, refl, ap, sym, subst, arith}
use Rattle.std.specs.Prelude.{IfErr, IfOk, IsErrOf, OnOk}
use Rattle.fb_outside.specs.Causes.{HasCause}
use Rattle.fb_outside.specs.Files.{Files, told_at}
use Rattle.column_file.specs.Rows.{StopsReading}
use Rattle.column_file.specs.Values.{width_in}
use Rattle.column_file.specs.declared.column.ColumnRef.{ColumnRef}
use Rattle.column_file.specs.declared.fault.ColFault.{ColFault}
use Rattle.column_file.specs.declared.fault.ColFault.TheVariants as column
use Rattle.text_column.specs.OpenedTexts.{StopsReadingTexts}
use Rattle.text_column.specs.declared.fault.TextFault.{TextFault}
use Rattle.text_column.specs.declared.fault.TextFault.TheVariants as text
use Rattle.text_column.specs.declared.text_ref.TextRef.{TextRef}
use Rattle.candidates.specs.Faults.{IsOfOutside, IsOfStore, text_fault}
use Rattle.candidates.specs.Texts.{StopsTexts}
use Rattle.candidates.specs.Numbers.{StopsNumbers}
use Rattle.candidates.specs.declared.fault.FindFault.TheVariants.{Values}

-- the same fault by another name
pub cause_as : (before now : ℕ) (P Q : Type 0) → (P → Q) → (Q → P) → HasCause before now P → HasCause before now Q
cause_as before now P Q there back h = record { later = h.later; rose = λ q. h.rose (back q); told = λ none. h.told (λ p. none (there p)) }

pub cause_done : {T E : Type 0} (before now : ℕ) (x : T) (fault : E) → HasCause before now (IsErrOf (Ok x) fault) → HasCause before now ⊥
cause_done before now x fault h = cause_as before now (IsErrOf (Ok x) fault) ⊥ (λ (e : IsErrOf (Ok x) fault). absurd (cc)) (λ (n : ⊥). absurd n) h

pub same_fault : {T E : Type 0} (x y : E) → IsErrOf {T = T} (Err x) y → x ≡ y
same_fault x y e = cc

-- ---- answers that say less

pub if_err : {T E : Type 0} (r : Result T E) (P Q : E → Type 0) → ((e : E) → P e → Q e) → IfErr r P → IfErr r Q
if_err (Ok x) P Q f h = tt
if_err (Err e) P Q f h = f e h

pub if_ok : {T E : Type 0} (r : Result T E) (P Q : T → Type 0) → ((x : T) → P x → Q x) → IfOk r P → IfOk r Q
if_ok (Ok x) P Q f h = f x h
if_ok (Err e) P Q f h = tt

pub on_ok : {T E : Type 0} (r : Result T E) (P Q : Type 0) → (P → Q) → OnOk r P → OnOk r Q
on_ok (Ok x) P Q f h = f h
on_ok (Err e) P Q f h = tt

-- ---- values

pub column_store : (fault : ColFault) → IsOfStore (Values fault) → fault ≡ column.Store
column_store column.Missing h = absurd h
column_store (column.WrongLength want have) h = absurd h
column_store column.MaskMissing h = absurd h
column_store (column.Mask why) h = absurd h
column_store column.MaskTrailing h = absurd h
column_store (column.MaskLength want have) h = absurd h
column_store column.Store h = refl
column_store column.OutOfMemory h = absurd h

pub store_of_column : (fault : ColFault) → fault ≡ column.Store → IsOfStore (Values fault)
store_of_column column.Missing e = absurd (cc)
store_of_column (column.WrongLength want have) e = absurd (cc)
store_of_column column.MaskMissing e = absurd (cc)
store_of_column (column.Mask why) e = absurd (cc)
store_of_column column.MaskTrailing e = absurd (cc)
store_of_column (column.MaskLength want have) e = absurd (cc)
store_of_column column.Store e = tt
store_of_column column.OutOfMemory e = absurd (cc)

pub numbers_stop : (files : Option Files) (opened : ColumnRef) (most : ℕ) (fault : ColFault) → StopsReading most fault
    → ((bytes : List ℕ) → told_at files opened.name ≡ Some bytes → length bytes ≡ opened.rows * width_in opened.ty → fault ≡ column.Store)
    → StopsNumbers files opened (Values fault)
numbers_stop files opened most column.Missing h whole = absurd h
numbers_stop files opened most (column.WrongLength want have) h whole =
    (omega (arith, h.0, h.1), λ bytes told long. let e : column.WrongLength want have ≡ column.Store = whole bytes told long in absurd (cc))
numbers_stop files opened most column.MaskMissing h whole = absurd h
numbers_stop files opened most (column.Mask why) h whole = absurd h
numbers_stop files opened most column.MaskTrailing h whole = absurd h
numbers_stop files opened most (column.MaskLength want have) h whole = absurd h
numbers_stop files opened most column.Store h whole = tt
numbers_stop files opened most column.OutOfMemory h whole = absurd h

pub column_cause : (before now : ℕ) (fault : ColFault) → HasCause before now (IsErrOf {T = Unit {0}} (Err fault) column.Store) → HasCause before now (IsOfStore (Values fault))
column_cause before now fault h =
    cause_as before now (IsErrOf {T = Unit {0}} (Err fault) column.Store) (IsOfStore (Values fault))
    (λ (e : IsErrOf {T = Unit {0}} (Err fault) column.Store). store_of_column fault (same_fault fault column.Store e))
    (λ s. ap Err (column_store fault s)) h

-- ---- texts

text_store : (fault : TextFault) → IsOfStore (text_fault fault) → fault ≡ text.Store
text_store text.Missing h = absurd h
text_store text.StartsMissing h = absurd h
text_store (text.StartsLength want have) h = absurd h
text_store (text.NotRising place) h = absurd h
text_store (text.LastStart want have) h = absurd h
text_store text.ShortRead h = absurd h
text_store (text.Mask why) h = absurd h
text_store text.Store h = refl
text_store text.OutOfMemory h = absurd h

store_of_text : (fault : TextFault) → fault ≡ text.Store → IsOfStore (text_fault fault)
store_of_text fault e = subst (λ (f : TextFault). IsOfStore (text_fault f)) (sym e) tt

pub text_cause : {T : Type 0} (before now : ℕ) (fault : TextFault) → HasCause before now (IsErrOf {T = T} (Err fault) text.Store) → HasCause before now (IsOfStore (text_fault fault))
text_cause {T = T} before now fault h =
    cause_as before now (IsErrOf {T = T} (Err fault) text.Store) (IsOfStore (text_fault fault))
    (λ (e : IsErrOf {T = T} (Err fault) text.Store). store_of_text fault (same_fault fault text.Store e))
    (λ s. ap Err (text_store fault s)) h

pub texts_stop : (files : Option Files) (opened : TextRef) (fault : TextFault) → StopsReadingTexts fault
    → ((bytes : List ℕ) → told_at files opened.name ≡ Some bytes → length bytes ≡ slice_index opened.starts.items opened.rows → fault ≡ text.ShortRead → ⊥)
    → StopsTexts files opened (text_fault fault)
texts_stop files opened text.Missing h whole = absurd h
texts_stop files opened text.StartsMissing h whole = absurd h
texts_stop files opened (text.StartsLength want have) h whole = absurd h
texts_stop files opened (text.NotRising place) h whole = absurd h
texts_stop files opened (text.LastStart want have) h whole = absurd h
texts_stop files opened text.ShortRead h whole = λ bytes told long. whole bytes told long refl
texts_stop files opened (text.Mask why) h whole = absurd h
texts_stop files opened text.Store h whole = tt
texts_stop files opened text.OutOfMemory h whole = tt

-- over a file that isn't too short
pub texts_outside : (fault : TextFault) → StopsReadingTexts fault → (fault ≡ text.ShortRead → ⊥) → IsOfOutside (text_fault fault)
texts_outside text.Missing h whole = absurd h
texts_outside text.StartsMissing h whole = absurd h
texts_outside (text.StartsLength want have) h whole = absurd h
texts_outside (text.NotRising place) h whole = absurd h
texts_outside (text.LastStart want have) h whole = absurd h
texts_outside text.ShortRead h whole = absurd (whole refl)
texts_outside (text.Mask why) h whole = absurd h
texts_outside text.Store h whole = tt
texts_outside text.OutOfMemory h whole = tt
