use Rattle.std.proofs.Common.{◌≡◌, ℕ, ◌≤◌, List, drop, length, sym, ap, subst, ◌∙◌, arith}
use Rattle.std.proofs.lemmas.List.{drop-drop}
use Rattle.wah_words.specs.Bytes.{number_at, body_at, sized_at, vector_at, Reads}
use Rattle.wah_words.proofs.BytesLemmas.{vector_short, vector_sized, sized_long, sized_groups, sized_short, sized_body}
use Rattle.wah_words.proofs.reading.read_vector.Goals as goal

-- what the two numbers at the front say
headed : (bytes after : List ℕ) (len m : ℕ) → 8 ≤ length bytes → len ≡ number_at bytes → after ≡ drop 4 bytes → m ≡ number_at after → vector_at bytes ≡ sized_at len m bytes
headed bytes after len m long l a e = vector_sized bytes long ∙ ap (λ n. sized_at n (number_at (drop 4 bytes)) bytes) (sym l) ∙ ap (λ b. sized_at len (number_at b) bytes) (sym a) ∙ ap (λ n. sized_at len n bytes) (sym e)

pub returns-then-bytes-lt8 : goal.returns-then-bytes-lt8
returns-then-bytes-lt8 c = vector_short c.args.bytes.now c.if-bytes-lt8.true

pub returns-then-len-gt-MAX_LEN : goal.returns-then-len-gt-MAX_LEN
returns-then-len-gt-MAX_LEN c =
    let len = c.number_of-len.result.0 in
    let m = c.number_of-count.result.0 in
    headed c.args.bytes.now c.number_of-len.result.1.now len m c.if-bytes-lt8.false c.number_of-len.ensures.number c.number_of-len.ensures.rest c.number_of-count.ensures.number ∙ sized_long len m c.args.bytes.now c.if-len-gt-MAX_LEN.true

pub returns-then-count-len : goal.returns-then-count-len
returns-then-count-len c =
    let len = c.number_of-len.result.0 in
    let m = c.number_of-count.result.0 in
    headed c.args.bytes.now c.number_of-len.result.1.now len m c.if-bytes-lt8.false c.number_of-len.ensures.number c.number_of-len.ensures.rest c.number_of-count.ensures.number ∙ sized_groups len m c.args.bytes.now c.if-len-gt-MAX_LEN.false c.if-count-len.true

pub returns-then-bytes-count : goal.returns-then-bytes-count
returns-then-bytes-count c =
    let len = c.number_of-len.result.0 in
    let m = c.number_of-count.result.0 in
    headed c.args.bytes.now c.number_of-len.result.1.now len m c.if-bytes-lt8.false c.number_of-len.ensures.number c.number_of-len.ensures.rest c.number_of-count.ensures.number ∙ sized_short len m c.args.bytes.now c.if-len-gt-MAX_LEN.false c.if-count-len.false (omega (arith, c.active_size.ensures, c.if-bytes-count.true))

pub returns : goal.returns
returns c =
    let len = c.number_of-len.result.0 in
    let m = c.number_of-count.result.0 in
    let body : c.number_of-count.result.1.now ≡ drop 8 c.args.bytes.now = c.number_of-count.ensures.rest ∙ ap (drop 4) c.number_of-len.ensures.rest ∙ drop-drop 4 4 c.args.bytes.now in
    let all : vector_at c.args.bytes.now ≡ body_at len m (drop 8 c.args.bytes.now) = headed c.args.bytes.now c.number_of-len.result.1.now len m c.if-bytes-lt8.false c.number_of-len.ensures.number c.number_of-len.ensures.rest c.number_of-count.ensures.number ∙ sized_body len m c.args.bytes.now c.if-len-gt-MAX_LEN.false c.if-count-len.false (omega (arith, c.active_size.ensures, c.if-bytes-count.false)) in
    subst (λ r. Reads c.read_body.result r) (sym (all ∙ ap (body_at len m) (sym body))) c.read_body.ensures
