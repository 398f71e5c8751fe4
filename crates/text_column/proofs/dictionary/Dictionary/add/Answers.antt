use Rattle.std.proofs.Common.{◌+◌, rules, ap, sym, subst, ◌∙◌, Some}
use Rattle.text_column.specs.Words.{IsDictionary, code_in}
use Rattle.text_column.proofs.WordLemmas.{kept_words, kept_place, kept_any, code_seen, no_code, dictionary_with}
use Rattle.text_column.proofs.dictionary.Dictionary.add.Goals as goal

pub returns-in_err-place-clause-new : goal.returns-in_err-place-clause-new
returns-in_err-place-clause-new c =
    let absent = no_code c.args.self.now c.args.word
    (sym (kept_any (λ v. v.items) c.self.inside.words.keys c.into_vec.result c.args.self.now c.args.word c.self.view_is c.into_vec.ensures)
    ∙ c.in_err-place.ensures.absent) in
    search (rules, absent)

pub returns-clause-ok : goal.returns-clause-ok
returns-clause-ok c =
    kept_words (λ v. v.items) c.self.inside.words.keys c.insert_full.new.self.keys c.into_vec.result c.args.self.now c.args.word c.in_ok-place.ensures.keys
    c.self.view_is c.into_vec.ensures

pub invariant_of-self-2 : goal.invariant_of-self-2
invariant_of-self-2 c =
    let valid : IsDictionary c.args.self.now = rw (← c.self.view_is) c.self.invariant in
    subst IsDictionary (sym (returns-clause-ok c)) (dictionary_with c.args.self.now c.args.word valid c.requires.word c.requires.few)

pub returns-clause-code : goal.returns-clause-code
returns-clause-code c =
    ap (λ words. code_in words c.args.word) (returns-clause-ok c) ∙ code_seen c.args.self.now c.args.word
    ∙ ap (λ n. Some (n + 1))
    (sym
    (c.in_ok-place.ensures.index
    ∙ kept_place (λ v. v.items) c.self.inside.words.keys c.into_vec.result c.args.self.now c.args.word c.self.view_is c.into_vec.ensures))
