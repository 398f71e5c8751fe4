-- The first line of a text from a place on, and the lines behind it.
use Rattle.std.proofs.Common.{◌≡◌, ◌==◌, ◌+◌, ◌<◌, ◌≤◌, ◌⊎◌, inl, inr, ℕ, Bool, List, [], ◌∷◌, length, take, drop, sym, ap, ◌∙◌, arith, length-drop}
use Rattle.std.specs.List.{slice_split, prefix_len}
use Rattle.std.proofs.lemmas.List.Splits.{slice_split_first, slice_split_none}
use Rattle.std.proofs.lemmas.List.Sums.{fails_before_first, prefix_len-le-length}
use Rattle.std.proofs.lemmas.List.Folds.{length-prefix_len}
use Rattle.std.proofs.lemmas.List.{drop-drop}
use Rattle.std.proofs.lemmas.Bool.{cases_lt, le-leb, lt-leb}
use Rattle.std.proofs.Math.Seq.{take-length}
use Rattle.fastbit_tool.specs.Session.{is_plain, lines_from, lines_of}

abbrev is_feed : ℕ → Bool
is_feed b = b == 10

-- where no line feed is left, the rest is the last line
last_line : (rest : List ℕ) → length rest ≤ prefix_len is_plain rest → lines_of rest ≡ rest ∷ []
last_line rest h = slice_split_none is_feed rest (λ k d below. fails_before_first is_feed rest k d (omega arith))

pub line_within : (text : List ℕ) (at : ℕ) → at ≤ length text → at + length (take (prefix_len is_plain (drop at text)) (drop at text)) ≤ length text
line_within text at h = omega (arith, length-prefix_len is_plain (drop at text), prefix_len-le-length is_plain (drop at text), length-drop at text)

-- a line with a line feed behind it
feed_line : (text : List ℕ) (at : ℕ) → at ≤ length text → prefix_len is_plain (drop at text) < length (drop at text)
    → lines_from text at ≡ take (prefix_len is_plain (drop at text)) (drop at text) ∷ lines_from text (at + prefix_len is_plain (drop at text) + 1)
feed_line text at h feed =
    let room : at + prefix_len is_plain (drop at text) + 1 ≤ length text = omega (arith, length-drop at text) in
    let first = slice_split_first is_feed (drop at text) 0 feed in
    let behind : drop (prefix_len is_plain (drop at text) + 1) (drop at text) ≡ drop (at + prefix_len is_plain (drop at text) + 1) text =
    drop-drop (prefix_len is_plain (drop at text) + 1) at text ∙ ap (λ n. drop n text) (omega arith) in
    rw (le-leb at (length text) h, le-leb (at + prefix_len is_plain (drop at text) + 1) (length text) room)
    (first ∙ ap (λ l. take (prefix_len is_plain (drop at text)) (drop at text) ∷ slice_split is_feed l) behind)

-- the last line
end_line : (text : List ℕ) (at : ℕ) → at ≤ length text → length (drop at text) ≤ prefix_len is_plain (drop at text)
    → lines_from text at ≡ take (prefix_len is_plain (drop at text)) (drop at text) ∷ lines_from text (at + prefix_len is_plain (drop at text) + 1)
end_line text at h last =
    let over : length text < at + prefix_len is_plain (drop at text) + 1 = omega (arith, length-drop at text) in
    let whole : prefix_len is_plain (drop at text) ≡ length (drop at text) = omega (arith, prefix_len-le-length is_plain (drop at text)) in
    rw (le-leb at (length text) h, lt-leb (at + prefix_len is_plain (drop at text) + 1) (length text) over)
    (last_line (drop at text) last ∙ ap (λ l. l ∷ []) (sym (ap (λ n. take n (drop at text)) whole ∙ take-length (drop at text))))

by_place : (text : List ℕ) (at : ℕ) → at ≤ length text
    → (prefix_len is_plain (drop at text) < length (drop at text)) ⊎ (length (drop at text) ≤ prefix_len is_plain (drop at text))
    → lines_from text at ≡ take (prefix_len is_plain (drop at text)) (drop at text) ∷ lines_from text (at + prefix_len is_plain (drop at text) + 1)
by_place text at h (inl feed) = feed_line text at h feed
by_place text at h (inr last) = end_line text at h last

pub line_cut : (text : List ℕ) (at : ℕ) → at ≤ length text
    → lines_from text at ≡ take (prefix_len is_plain (drop at text)) (drop at text)
    ∷ lines_from text (at + length (take (prefix_len is_plain (drop at text)) (drop at text)) + 1)
line_cut text at h =
    let length_is = length-prefix_len is_plain (drop at text) in
    by_place text at h (cases_lt (prefix_len is_plain (drop at text)) (length (drop at text)))
    ∙ ap (λ n. take (prefix_len is_plain (drop at text)) (drop at text) ∷ lines_from text (at + n + 1)) (sym length_is)
