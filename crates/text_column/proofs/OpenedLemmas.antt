-- What opening and reading texts come to, step by step.
use Rattle.std.proofs.Common.{◌≡◌, ◌⊎◌, inl, inr, ℕ, zero, suc, ◌+◌, ◌-◌, ◌*◌, ◌^◌, ◌<◌, ◌≤◌, ◌==◌, Bool, true, false, cond, Vec, List, [], length, get_or, take, drop, Option, Some, None, IfSome, IfOk, Result, Ok, Err, unwrap_or, refl, sym, ap, subst, ◌∙◌, arith, length-drop}
use Rattle.std.proofs.lemmas.Bool.{eq-eqb, eqb-true}
use Rattle.std.proofs.lemmas.List.{length-take-le}
use Rattle.fb_outside.specs.Files.{Files, file_at, told_at, bytes_at}
use Rattle.fb_outside.specs.Reads.{Look, AddsOnly}
use Rattle.fb_outside.proofs.ReadLemmas.{AddsOnly-trans, AddsOnly-weaken}
use Rattle.answers.specs.Answers.{Answers}
use Rattle.wah_words.specs.Limits.{most_bits}
use Rattle.text_column.specs.OpenedTexts.{listed, unless_wrong, placed_in, starts_in, and_mask, with_starts, masked, text_in, parted_by, read_in, told_by_files}
use Rattle.text_column.specs.Texts.{text_file, starts_of, starts_bytes, starts_at, first_wrong, texts_at, starts_between, size_between}
use Rattle.wah_words.specs.Bytes.{spelling}
use Rattle.column_file.specs.Opening.{mask_in}
use Rattle.column_file.proofs.OpeningLemmas.{spelled_to_end}
use Rattle.column_file.proofs.NumberLemmas.{AreBytes}
use Rattle.text_column.proofs.TextLemmas.{length-starts, length-starts_bytes, starts_small, starts_again, starts_rise, last_start, starts_spelled, parts_of, start_of_row, starts_order, front_fits, rows_parted}
use Rattle.text_column.specs.declared.fault.TextFault.{TextFault}
use Rattle.text_column.specs.declared.fault.TextFault.TheVariants.{Missing, StartsMissing, StartsLength, NotRising, LastStart, ShortRead, Mask, Store, OutOfMemory}

-- a fault that is handed on
pub handed_on : {T U : Type 0} (fault : TextFault) (given : Result T TextFault) (go : Result T TextFault → Result U TextFault)
    → ((f : TextFault) → go (Err f) ≡ Err f) → Answers told_by_files (Err fault) given → Answers told_by_files (Err fault) (go given)
handed_on Missing given go keeps h = ap go h ∙ keeps Missing
handed_on StartsMissing given go keeps h = ap go h ∙ keeps StartsMissing
handed_on (StartsLength want have) given go keeps h = ap go h ∙ keeps (StartsLength want have)
handed_on (NotRising place) given go keeps h = ap go h ∙ keeps (NotRising place)
handed_on (LastStart want have) given go keeps h = ap go h ∙ keeps (LastStart want have)
handed_on ShortRead given go keeps h = ap go h ∙ keeps ShortRead
handed_on (Mask fault) given go keeps h = ap go h ∙ keeps (Mask fault)
handed_on Store given go keeps h = tt
handed_on OutOfMemory given go keeps h = tt

-- ---- over files that are told

pub on_files : (files : Option Files) (P Q : Files → Type 0) → ((m : Files) → P m → Q m) → IfSome files P → IfSome files Q
on_files None P Q f h = tt
on_files (Some m) P Q f h = f m h

pub on_both : (files : Option Files) (P Q R : Files → Type 0) → ((m : Files) → P m → Q m → R m) → IfSome files P → IfSome files Q → IfSome files R
on_both None P Q R f h k = tt
on_both (Some m) P Q R f h k = f m h k

-- ---- reads

pub looks_first : (P Q : Look → Type 0) (old new : Option (List Look)) → AddsOnly P old new → AddsOnly (λ look. P look ⊎ Q look) old new
looks_first P Q old new h = AddsOnly-weaken P (λ look. P look ⊎ Q look) old new (λ look p. inl p) h

pub looks_both : (P Q : Look → Type 0) (old mid new : Option (List Look)) → AddsOnly P old mid → AddsOnly Q mid new → AddsOnly (λ look. P look ⊎ Q look) old new
looks_both P Q old mid new h k =
    AddsOnly-trans (λ look. P look ⊎ Q look) old mid new
    (AddsOnly-weaken P (λ look. P look ⊎ Q look) old mid (λ look p. inl p) h)
    (AddsOnly-weaken Q (λ look. P look ⊎ Q look) mid new (λ look q. inr q) k)

-- ---- what is written is opened

pub opened_again : (texts : List (List ℕ)) (bits : List Bool) → length bits ≡ length texts → length bits ≤ most_bits → length (text_file texts) < 2 ^ 64
    → text_in (length texts) (Some (text_file texts)) (Some (starts_bytes (starts_of texts))) (Some (spelling bits)) ≡ Ok (starts_of texts, bits)
opened_again texts bits rows limit small =
    let starts = starts_of texts in
    let size = length (text_file texts) in
    let count = length-starts 0 texts in
    let bytes : length (starts_bytes starts) ≡ 8 * (length texts + 1) = length-starts_bytes starts ∙ ap (λ n. 8 * n) count in
    let all_small = starts_small 0 texts (omega arith) in
    let again : starts_at (length texts + 1) (starts_bytes starts) ≡ starts = ap (λ n. starts_at n (starts_bytes starts)) (sym count) ∙ starts_again starts all_small in
    let mask = masked (mask_in (length texts) (Some (spelling bits))) in
    ap (λ b. and_mask (cond b (placed_in size (length texts) (starts_at (length texts + 1) (starts_bytes starts))) (Err (StartsLength (8 * (length texts + 1)) (length (starts_bytes starts))))) mask)
    (eq-eqb (length (starts_bytes starts)) (8 * (length texts + 1)) bytes)
    ∙ ap (λ ss. and_mask (placed_in size (length texts) ss) mask) again
    ∙ ap (λ o. and_mask (unless_wrong o (cond (get_or starts (length texts) 0 == size) (Ok starts) (Err (LastStart size (get_or starts (length texts) 0))))) mask) (starts_rise texts)
    ∙ ap (λ b. and_mask (cond b (Ok starts) (Err (LastStart size (get_or starts (length texts) 0)))) mask) (eq-eqb (get_or starts (length texts) 0) size (last_start texts))
    ∙ ap (λ r. with_starts starts (masked r)) (spelled_to_end (length texts) bits rows limit)

pub opens_texts : (files : Option Files) (opened : Result (List ℕ × List Bool) TextFault) (name starts_name mask_name : List ℕ) (rows : ℕ) (texts : List (List ℕ)) (bits : List Bool)
    → IfSome files (λ m. Answers told_by_files opened (text_in rows (file_at m name) (file_at m starts_name) (file_at m mask_name)))
    → length texts ≡ rows → length bits ≡ rows → length bits ≤ most_bits → length (text_file texts) < 2 ^ 64
    → told_at files name ≡ Some (text_file texts) → told_at files starts_name ≡ Some (starts_bytes (starts_of texts)) → told_at files mask_name ≡ Some (spelling bits)
    → Answers told_by_files opened (Ok (starts_of texts, bits))
opens_texts None opened name starts_name mask_name rows texts bits h size one_each limit small text starts mask = absurd (cc)
opens_texts (Some m) opened name starts_name mask_name rows texts bits h size one_each limit small text starts mask =
    subst (Answers told_by_files opened)
    (ap (λ n. text_in n (file_at m name) (file_at m starts_name) (file_at m mask_name)) (sym size)
    ∙ ap (λ a. text_in (length texts) a (file_at m starts_name) (file_at m mask_name)) text
    ∙ ap (λ a. text_in (length texts) (Some (text_file texts)) a (file_at m mask_name)) starts
    ∙ ap (λ a. text_in (length texts) (Some (text_file texts)) (Some (starts_bytes (starts_of texts))) a) mask
    ∙ opened_again texts bits (one_each ∙ sym size) limit small)
    h

-- ---- what is opened is spelled so

placed_ok : (o : Option ℕ) (b : Bool) (starts starts' : List ℕ) (fault : TextFault) → unless_wrong o (cond b (Ok starts) (Err fault)) ≡ Ok starts'
    → (o ≡ None) × (b ≡ true) × (starts ≡ starts')
placed_ok None true starts starts' fault h = let same : starts ≡ starts' = cc in (refl, refl, same)
placed_ok None false starts starts' fault h = absurd (cc)
placed_ok (Some k) b starts starts' fault h = absurd (cc)

sized_ok : (b : Bool) (placed : Result (List ℕ) TextFault) (fault : TextFault) (starts : List ℕ) → cond b placed (Err fault) ≡ Ok starts → (b ≡ true) × (placed ≡ Ok starts)
sized_ok true placed fault starts h = (refl, h)
sized_ok false placed fault starts h = absurd (cc)

length-starts_at : (n : ℕ) (bytes : List ℕ) → length (starts_at n bytes) ≡ n
unfolding starts_at
length-starts_at zero bytes = refl
length-starts_at (suc n) bytes = ap suc (length-starts_at n (drop 8 bytes))

pub starts_found : (rows : ℕ) (text bytes starts : List ℕ) → AreBytes bytes → starts_in (length text) rows (Some bytes) ≡ Ok starts
    → (starts_bytes starts ≡ bytes) × (starts_of (texts_at starts text) ≡ starts) × (text_file (texts_at starts text) ≡ text)
starts_found rows text bytes starts are h =
    let read = starts_at (rows + 1) bytes in
    let one = sized_ok (length bytes == 8 * (rows + 1)) (placed_in (length text) rows read) (StartsLength (8 * (rows + 1)) (length bytes)) starts h in
    let two = placed_ok (first_wrong read) (get_or read rows 0 == length text) read starts (LastStart (length text) (get_or read rows 0)) one.1 in
    let size = eqb-true (length bytes) (8 * (rows + 1)) one.0 in
    let last = eqb-true (get_or read rows 0) (length text) two.1 in
    let parts = parts_of read text rows two.0 (length-starts_at (rows + 1) bytes) last in
    let same = two.2 in (
      ap starts_bytes (sym same) ∙ starts_spelled (rows + 1) bytes are size,
      ap (λ ss. starts_of (texts_at ss text)) (sym same) ∙ parts.0 ∙ same,
      ap (λ ss. text_file (texts_at ss text)) (sym same) ∙ parts.1,
    )

-- ---- reading texts

-- over a file that has the bytes, none are missing
pub none_missing : (files : Option Files) (name bytes : List ℕ) (at want : ℕ) (starts : List ℕ) (answered : Result (List (List ℕ)) TextFault)
    → told_at files name ≡ Some bytes → at + want ≤ length bytes
    → IfSome files (λ m. Answers told_by_files answered (read_in want starts (bytes_at m name at want))) → answered ≡ Err ShortRead → ⊥
none_missing None name bytes at want starts answered told room h is = absurd (cc)
none_missing (Some m) name bytes at want starts answered told room h is =
    let given : read_in want starts (bytes_at m name at want) ≡ Err ShortRead = subst (λ a. Answers told_by_files a (read_in want starts (bytes_at m name at want))) is h in
    let there : bytes_at m name at want ≡ take want (drop at bytes) = ap (λ o. take want (drop at (unwrap_or o []))) told in
    let size : length (bytes_at m name at want) ≡ want = ap length there ∙ length-take-le want (drop at bytes) (omega (arith, length-drop at bytes, room)) in
    let read : read_in want starts (bytes_at m name at want) ≡ Ok (texts_at starts (bytes_at m name at want)) =
    ap (λ b. parted_by starts (cond b (Ok (bytes_at m name at want)) (Err ShortRead))) (eq-eqb (length (bytes_at m name at want)) want size) in
    cc

answer_ok : (answered given : Result (List (List ℕ)) TextFault) (want : List (List ℕ)) → Answers told_by_files answered given → given ≡ Ok want → IfOk answered (λ texts. texts ≡ want)
answer_ok (Ok texts) given want h is = let both : Ok want ≡ Ok texts = sym is ∙ h in let same : want ≡ texts = cc in sym same
answer_ok (Err fault) given want h is = tt

-- over the bytes of texts the rows are those
pub rows_read : (files : Option Files) (name : List ℕ) (texts : List (List ℕ)) (starts : List ℕ) (first end : ℕ) (answered : Result (List (List ℕ)) TextFault)
    → starts ≡ starts_of texts → told_at files name ≡ Some (text_file texts) → first ≤ end → end < length starts
    → IfSome files (λ m. Answers told_by_files answered (read_in (size_between starts first end) (starts_between starts first end) (bytes_at m name (get_or starts first 0) (size_between starts first end))))
    → IfOk answered (λ read. read ≡ take (end - first) (drop first texts))
rows_read None name texts starts first end answered is told order within h = absurd (cc)
rows_read (Some m) name texts starts first end answered is told order within h =
    let count = length-starts 0 texts in
    let want = size_between (starts_of texts) first end in
    let at = get_or (starts_of texts) first 0 in
    let rows = starts_between (starts_of texts) first end in
    let inside : end ≤ length texts = omega (arith, ap length is, count, within) in
    let bytes = bytes_at m name at want in
    let there : bytes ≡ take want (drop at (text_file texts)) = ap (λ o. take want (drop at (unwrap_or o []))) told in
    let ends = start_of_row 0 texts end inside in
    let begins = start_of_row 0 texts first (omega (arith, order, inside)) in
    let fits = front_fits texts end in
    let rises = starts_order (starts_of texts) first end (starts_rise texts) order (omega (arith, count, inside)) in
    let size : length bytes ≡ want = ap length there ∙ length-take-le want (drop at (text_file texts)) (omega (arith, length-drop at (text_file texts), ends, begins, fits, rises)) in
    let read : read_in want rows bytes ≡ Ok (take (end - first) (drop first texts)) =
    ap (λ b. parted_by rows (cond b (Ok bytes) (Err ShortRead))) (eq-eqb (length bytes) want size)
    ∙ ap (λ b. Ok (texts_at rows b)) there ∙ ap (λ ts. Ok ts) (rows_parted texts first end order inside) in
    answer_ok answered (read_in want rows bytes) (take (end - first) (drop first texts))
    (subst (λ ss. Answers told_by_files answered (read_in (size_between ss first end) (starts_between ss first end) (bytes_at m name (get_or ss first 0) (size_between ss first end)))) is h) read

pub ok_listed : {X A : Type 0} (answered : Result (Vec X A) TextFault) (P : List X → Type 0) → IfOk (listed answered) P → IfOk answered (λ items. P items.items)
ok_listed (Ok items) P h = h
ok_listed (Err fault) P h = tt

-- the rows of a file that ends where the last start says have their bytes in it
pub rows_have : (starts bytes : List ℕ) (first end rows : ℕ) → first_wrong starts ≡ None → length starts ≡ rows + 1 → first ≤ end → end ≤ rows
    → length bytes ≡ get_or starts rows 0 → get_or starts first 0 + size_between starts first end ≤ length bytes
rows_have starts bytes first end rows rising count order within size =
    let one = starts_order starts first end rising order (omega (arith, count, within)) in
    let two = starts_order starts end rows rising within (omega (arith, count)) in
    omega (arith, one, two, size)
