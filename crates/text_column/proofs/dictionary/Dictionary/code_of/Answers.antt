use Rattle.std.proofs.Common.{◌+◌, ap, sym, ◌∙◌, option_map}
use Rattle.std.specs.Str.{bytes_eq}
use Rattle.text_column.specs.Words.{code_in}
use Rattle.text_column.proofs.WordLemmas.{position-map}
use Rattle.text_column.proofs.dictionary.Dictionary.code_of.Goals as goal

pub returns-in-Some : goal.returns-in-Some
returns-in-Some c =
    ap (option_map (λ place. place + 1)) (sym c.in-Some.is ∙ c.get_index_of.ensures.index ∙ position-map (λ v. v.items) (bytes_eq c.args.word.now) c.self.inside.words.keys)
    ∙ ap (λ words. code_in words c.args.word.now) c.self.view_is

pub returns-in-None : goal.returns-in-None
returns-in-None c =
    ap (option_map (λ place. place + 1)) (sym c.in-None.is ∙ c.get_index_of.ensures.index ∙ position-map (λ v. v.items) (bytes_eq c.args.word.now) c.self.inside.words.keys)
    ∙ ap (λ words. code_in words c.args.word.now) c.self.view_is
