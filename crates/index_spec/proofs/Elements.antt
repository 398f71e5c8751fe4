-- Options, one step at a time.
use Rattle.std.proofs.Common.{◌≡◌, ℕ, zero, suc, ◌≤◌, ◌<◌, List, [], ◌∷◌, ◌++◌, length, refl, sym, ap, ◌∙◌, append_assoc, append-nil, arith, ℤ}
use Rattle.std.specs.Prelude.{Option, Some, None}
use Rattle.std.specs.Option.{option_and_then}
use Rattle.index_spec.specs.declared.token.Token.{Token}
use Rattle.index_spec.specs.declared.token.Token.TheVariants as t
use Rattle.index_spec.specs.declared.options.Value.{Value}
use Rattle.index_spec.specs.declared.options.Value.TheVariants as v
use Rattle.index_spec.specs.declared.options.Setting.{Setting}
use Rattle.index_spec.specs.Options.{numbers_at, value_at, setting_at, settings_before, after_end, ended_or, settings_within, settings_of}
use Rattle.lexing.proofs.Cases.{mapped}

-- a list of numbers has tokens
numbers_at_shorter : (ts : List Token) (found : List ℤ × List Token) → numbers_at ts ≡ Some found → length found.1 < length ts
numbers_at_shorter (t.Number n ∷ t.Close ∷ ts) found e =
    let same : length ts ≡ length found.1 = ap (λ o. length (rest_in o)) e in omega arith
  where
    rest_in : Option (List ℤ × List Token) → List Token
    rest_in None = []
    rest_in (Some f) = f.1
numbers_at_shorter (t.Number n ∷ t.Comma ∷ ts) found e =
    let h = mapped (λ f. ((n ∷ []) ++ f.0, f.1)) (numbers_at ts) found e in
    let less = numbers_at_shorter ts h.0 h.1.0 in
    let same : length h.0.1 ≡ length found.1 = ap (λ f. length f.1) h.1.1 in
    omega arith
numbers_at_shorter _ found e = cc

abbrev value_rest : Option (Value × List Token) → List Token
value_rest None = []
value_rest (Some f) = f.1

-- a value takes no more than what is there
value_at_shorter : (ts : List Token) (found : Value × List Token) → value_at ts ≡ Some found → length found.1 ≤ length ts
unfolding value_at
value_at_shorter (t.Equals ∷ t.Number n ∷ ts) found e = let same : length ts ≡ length found.1 = ap (λ o. length (value_rest o)) e in omega arith
value_at_shorter (t.Equals ∷ t.Word word ∷ ts) found e = let same : length ts ≡ length found.1 = ap (λ o. length (value_rest o)) e in omega arith
value_at_shorter (t.Equals ∷ t.Open ∷ t.Close ∷ ts) found e = let same : length ts ≡ length found.1 = ap (λ o. length (value_rest o)) e in omega arith
value_at_shorter (t.Equals ∷ t.Open ∷ ts) found e =
    let h = mapped (λ f. (v.Numbers f.0, f.1)) (numbers_at ts) found e in
    let less = numbers_at_shorter ts h.0 h.1.0 in
    let same : length h.0.1 ≡ length found.1 = ap (λ f. length f.1) h.1.1 in
    omega arith
value_at_shorter ts found e = let same : length ts ≡ length found.1 = ap (λ o. length (value_rest o)) e in omega arith

pub setting_at_shorter : (ts : List Token) (found : Setting × List Token) → setting_at ts ≡ Some found → length found.1 < length ts
unfolding setting_at
setting_at_shorter (t.Word name ∷ ts) found e =
    let h = mapped (λ f. (record { name = name; value = f.0 }, f.1)) (value_at ts) found e in
    let less = value_at_shorter ts h.0 h.1.0 in
    let same : length h.0.1 ≡ length found.1 = ap (λ f. length f.1) h.1.1 in
    omega arith
setting_at_shorter _ found e = cc

next : (found : Option (Setting × List Token)) (m n : ℕ) → ((f : Setting × List Token) → found ≡ Some f → settings_within m f.1 ≡ settings_within n f.1)
    → option_and_then (λ f. settings_before (f.0 ∷ []) (settings_within m f.1)) found ≡ option_and_then (λ f. settings_before (f.0 ∷ []) (settings_within n f.1)) found
next None m n same = refl
next (Some f) m n same = ap (settings_before (f.0 ∷ [])) (same f refl)

-- more steps than tokens change nothing
pub settings_within-enough : (m n : ℕ) (ts : List Token) → length ts ≤ m → length ts ≤ n → settings_within m ts ≡ settings_within n ts
unfolding setting_at
settings_within-enough zero zero ts _ _ = refl
settings_within-enough zero (suc n) [] _ _ = refl
settings_within-enough zero (suc n) (t ∷ ts) lm ln = absurd (omega arith)
settings_within-enough (suc m) zero [] _ _ = refl
settings_within-enough (suc m) zero (t ∷ ts) lm ln = absurd (omega arith)
settings_within-enough (suc m) (suc n) ts lm ln =
    ap (ended_or (after_end ts)) (next (setting_at ts) m n (λ f e. let s = setting_at_shorter ts f e in settings_within-enough m n f.1 (omega arith) (omega arith)))

ended : (n : ℕ) (ts rest : List Token) → after_end ts ≡ Some rest → settings_within n ts ≡ Some ([], rest)
ended zero ts rest e = rw e refl
ended (suc n) ts rest e = rw e refl

pub settings_of-ended : (ts rest : List Token) → after_end ts ≡ Some rest → settings_of ts ≡ Some ([], rest)
unfolding settings_of
settings_of-ended ts rest e = ended (length ts) ts rest e

stuck : (n : ℕ) (ts : List Token) → after_end ts ≡ None → setting_at ts ≡ None → settings_within n ts ≡ None
stuck zero ts open_ none = rw open_ refl
stuck (suc n) ts open_ none = rw (open_, none) refl

pub settings_of-stuck : (ts : List Token) → after_end ts ≡ None → setting_at ts ≡ None → settings_of ts ≡ None
unfolding settings_of
settings_of-stuck ts open_ none = stuck (length ts) ts open_ none

pub settings_of-more : (ts rest : List Token) (s : Setting) → after_end ts ≡ None → setting_at ts ≡ Some (s, rest) → settings_of ts ≡ settings_before (s ∷ []) (settings_of rest)
unfolding settings_of setting_at
settings_of-more [] rest s open_ some = cc
settings_of-more (t ∷ ts) rest s open_ some =
    let shorter = setting_at_shorter (t ∷ ts) (s, rest) some in
    let enough : settings_within (length ts) rest ≡ settings_within (length rest) rest = settings_within-enough (length ts) (length rest) rest (omega arith) (omega arith) in
    rw (open_, some) (ap (settings_before (s ∷ [])) enough)

pub settings_before-twice : (front more : List Setting) (o : Option (List Setting × List Token)) → settings_before front (settings_before more o) ≡ settings_before (front ++ more) o
settings_before-twice front more None = refl
settings_before-twice front more (Some f) = ap (λ ss. Some (ss, f.1)) (sym (append_assoc front more f.0))

-- the loop, where it ends
pub all-settings : (tokens ts rest : List Token) (settings : List Setting) → settings_of tokens ≡ settings_before settings (settings_of ts) → after_end ts ≡ Some rest → Some (settings, rest) ≡ settings_of tokens
all-settings tokens ts rest settings so_far e =
    sym (so_far ∙ (ap (settings_before settings) (settings_of-ended ts rest e) ∙ ap (λ ss. Some (ss, rest)) (append-nil settings)))

-- where it finds no option
pub no-setting : (tokens ts : List Token) (settings : List Setting) → settings_of tokens ≡ settings_before settings (settings_of ts) → after_end ts ≡ None → setting_at ts ≡ None → None ≡ settings_of tokens
no-setting tokens ts settings so_far open_ none = sym (so_far ∙ ap (settings_before settings) (settings_of-stuck ts open_ none))

-- where it finds one
pub one-setting : (tokens ts rest : List Token) (settings pushed : List Setting) (s : Setting) → settings_of tokens ≡ settings_before settings (settings_of ts) → after_end ts ≡ None → setting_at ts ≡ Some (s, rest) → pushed ≡ settings ++ s ∷ [] → settings_of tokens ≡ settings_before pushed (settings_of rest)
one-setting tokens ts rest settings pushed s so_far open_ some e =
    so_far ∙ (ap (settings_before settings) (settings_of-more ts rest s open_ some) ∙ (settings_before-twice settings (s ∷ []) (settings_of rest) ∙ ap (λ ss. settings_before ss (settings_of rest)) (sym e)))

pub before-no-settings : (o : Option (List Setting × List Token)) → o ≡ settings_before [] o
before-no-settings None = refl
before-no-settings (Some f) = refl
