-- What the second stage of a part's condition answers, reads and looks at, condition by condition.
use Rattle.std.proofs.Common.{◌≡◌, ℕ, ◌≤◌, ◌+◌, arith}
use Rattle.wah_words.specs.Spelling.{words_of}
use Rattle.two_stage.proofs.AnsweredLemmas.{IsAnswered, codes_answered, exists_answered, texts_answered, whole_answered}
use Rattle.two_stage.proofs.CheckLemmas.{few_steps}
use Rattle.two_stage.proofs.ConditionLookLemmas.{codes_looks, whole_looks, word_looks}
use Rattle.two_stage.proofs.conditions.PartConditionsConditions.check.Given.{Over}
use Rattle.two_stage.proofs.conditions.PartConditionsConditions.check.Goals as goal

-- ---- numbers

whole_by : (g : Over) (c : goal.After-check_numbers g)
    → IsAnswered (g.S.Store.files c.args.store.now) c.args.self.now.dir c.args.self.now.meta c.args.atom.now c.args.candidates.now
    (g.S.Store.reads c.args.store.now) (g.S.Store.reads c.check_numbers.new.store) c.check_numbers.result
whole_by g c =
    whole_answered (g.S.Store.files c.args.store.now) c.args.self.now.dir c.args.self.now.meta c.placed-placed.ensures.part c.args.candidates.now
    (g.S.Store.reads c.args.store.now) (g.S.Store.reads c.check_numbers.new.store) c.check_numbers.result c.args.atom.now c.args.column.now
    c.in-Whole-Numbers.col c.in-Whole-Numbers.spans c.in-Whole-Numbers.numbers c.in-Whole-Numbers.is-0 c.in-Whole-Numbers.is-1
    c.requires.fits c.requires.opened c.requires.unknown
    (record { found = c.check_numbers.ensures.found; whole = c.check_numbers.ensures.whole; reads = c.check_numbers.ensures.reads })

pub returns-in-Whole-Numbers-clause-looks : goal.returns-in-Whole-Numbers-clause-looks
returns-in-Whole-Numbers-clause-looks g c =
    whole_looks (g.S.Store.files c.args.store.now) c.args.self.now.dir c.args.self.now.meta c.args.atom.now c.args.column.now c.args.candidates.now
    (g.S.Store.reads c.args.store.now) (g.S.Store.reads c.check_numbers.new.store) c.in-Whole-Numbers.col c.in-Whole-Numbers.spans c.in-Whole-Numbers.numbers c.in-Whole-Numbers.is-0 c.in-Whole-Numbers.is-1
    c.requires.opened c.check_numbers.ensures.reads

pub returns-in-Whole-Numbers-clause-steps : goal.returns-in-Whole-Numbers-clause-steps
returns-in-Whole-Numbers-clause-steps g c =
    few_steps c.args.candidates.now c.args.self.now.meta.rows c.args.steps.now c.check_numbers.new.steps c.requires.length c.check_numbers.ensures.steps

pub returns-in-Whole-Numbers-clause-found : goal.returns-in-Whole-Numbers-clause-found
returns-in-Whole-Numbers-clause-found g c = (whole_by g c).found

pub returns-in-Whole-Numbers-clause-whole : goal.returns-in-Whole-Numbers-clause-whole
returns-in-Whole-Numbers-clause-whole g c = (whole_by g c).whole

pub returns-in-Whole-Numbers-clause-reads : goal.returns-in-Whole-Numbers-clause-reads
returns-in-Whole-Numbers-clause-reads g c = (whole_by g c).reads

-- ---- codes

codes_by : (g : Over) (c : goal.After-check_numbers-in-Word-Codes g)
    → IsAnswered (g.S.Store.files c.args.store.now) c.args.self.now.dir c.args.self.now.meta c.args.atom.now c.args.candidates.now
    (g.S.Store.reads c.args.store.now) (g.S.Store.reads c.check_numbers-in-Word-Codes.new.store) c.check_numbers-in-Word-Codes.result
codes_by g c =
    codes_answered (g.S.Store.files c.args.store.now) c.args.self.now.dir c.args.self.now.meta c.placed-placed-in-Word-Codes.ensures.part
    c.args.candidates.now (g.S.Store.reads c.args.store.now) (g.S.Store.reads c.check_numbers-in-Word-Codes.new.store)
    c.check_numbers-in-Word-Codes.result c.args.atom.now c.args.column.now c.in-Word-Codes.col c.in-Word-Codes.atom-0 c.in-Word-Codes.spans
    c.in-Word-Codes.codes c.in-Word-Codes.is-0 c.in-Word-Codes.is-1 c.requires.fits c.requires.opened c.requires.unknown
    (record {
      found = c.check_numbers-in-Word-Codes.ensures.found;
      whole = c.check_numbers-in-Word-Codes.ensures.whole;
      reads = c.check_numbers-in-Word-Codes.ensures.reads;
    })

pub returns-in-Word-Codes-clause-looks : goal.returns-in-Word-Codes-clause-looks
returns-in-Word-Codes-clause-looks g c =
    codes_looks (g.S.Store.files c.args.store.now) c.args.self.now.dir c.args.self.now.meta c.args.atom.now c.args.column.now c.args.candidates.now
    (g.S.Store.reads c.args.store.now) (g.S.Store.reads c.check_numbers-in-Word-Codes.new.store) c.in-Word-Codes.col c.in-Word-Codes.atom-0 c.in-Word-Codes.spans c.in-Word-Codes.codes c.in-Word-Codes.is-0 c.in-Word-Codes.is-1
    c.requires.opened c.check_numbers-in-Word-Codes.ensures.reads

pub returns-in-Word-Codes-clause-steps : goal.returns-in-Word-Codes-clause-steps
returns-in-Word-Codes-clause-steps g c =
    few_steps c.args.candidates.now c.args.self.now.meta.rows c.args.steps.now c.check_numbers-in-Word-Codes.new.steps c.requires.length
    c.check_numbers-in-Word-Codes.ensures.steps

pub returns-in-Word-Codes-clause-found : goal.returns-in-Word-Codes-clause-found
returns-in-Word-Codes-clause-found g c = (codes_by g c).found

pub returns-in-Word-Codes-clause-whole : goal.returns-in-Word-Codes-clause-whole
returns-in-Word-Codes-clause-whole g c = (codes_by g c).whole

pub returns-in-Word-Codes-clause-reads : goal.returns-in-Word-Codes-clause-reads
returns-in-Word-Codes-clause-reads g c = (codes_by g c).reads

-- ---- texts

texts_by : (g : Over) (c : goal.After-check_texts g)
    → IsAnswered (g.S.Store.files c.args.store.now) c.args.self.now.dir c.args.self.now.meta c.args.atom.now c.args.candidates.now
    (g.S.Store.reads c.args.store.now) (g.S.Store.reads c.check_texts.new.store) c.check_texts.result
texts_by g c =
    texts_answered (g.S.Store.files c.args.store.now) c.args.self.now.dir c.args.self.now.meta c.placed-placed-in-Word-Texts.ensures.part
    c.args.candidates.now (g.S.Store.reads c.args.store.now) (g.S.Store.reads c.check_texts.new.store) c.check_texts.result c.args.atom.now
    c.args.column.now c.in-Word-Texts.col c.in-Word-Texts.atom c.in-Word-Texts.text c.in-Word-Texts.is-0 c.in-Word-Texts.is-1
    c.requires.fits c.requires.opened c.requires.unknown
    (record { found = c.check_texts.ensures.found; whole = c.check_texts.ensures.whole; reads = c.check_texts.ensures.reads })

pub returns-in-Word-Texts-clause-looks : goal.returns-in-Word-Texts-clause-looks
returns-in-Word-Texts-clause-looks g c =
    word_looks (g.S.Store.files c.args.store.now) c.args.self.now.dir c.args.self.now.meta c.args.atom.now c.args.column.now c.args.candidates.now
    (g.S.Store.reads c.args.store.now) (g.S.Store.reads c.check_texts.new.store) c.in-Word-Texts.col c.in-Word-Texts.atom c.in-Word-Texts.text c.in-Word-Texts.is-0 c.in-Word-Texts.is-1
    c.requires.opened c.check_texts.ensures.reads

pub returns-in-Word-Texts-clause-steps : goal.returns-in-Word-Texts-clause-steps
returns-in-Word-Texts-clause-steps g c =
    few_steps c.args.candidates.now c.args.self.now.meta.rows c.args.steps.now c.check_texts.new.steps c.requires.length c.check_texts.ensures.steps

pub returns-in-Word-Texts-clause-found : goal.returns-in-Word-Texts-clause-found
returns-in-Word-Texts-clause-found g c = (texts_by g c).found

pub returns-in-Word-Texts-clause-whole : goal.returns-in-Word-Texts-clause-whole
returns-in-Word-Texts-clause-whole g c = (texts_by g c).whole

pub returns-in-Word-Texts-clause-reads : goal.returns-in-Word-Texts-clause-reads
returns-in-Word-Texts-clause-reads g c = (texts_by g c).reads

-- ---- `exists`

pub returns-in_ok-copy-in-Exists-default-clause-steps : goal.returns-in_ok-copy-in-Exists-default-clause-steps
returns-in_ok-copy-in-Exists-default-clause-steps g c =
    let looks : c.copy.new.steps ≤ c.args.steps.now + words_of c.args.candidates.now = omega (arith, c.in_ok-copy-in-Exists-default.ensures.steps) in
    few_steps c.args.candidates.now c.args.self.now.meta.rows c.args.steps.now c.copy.new.steps c.requires.length looks

pub returns-in_ok-copy-in-Exists-default-clause-found : goal.returns-in_ok-copy-in-Exists-default-clause-found
returns-in_ok-copy-in-Exists-default-clause-found g c m means =
    exists_answered (g.S.Store.files c.args.store.now) c.args.self.now.dir c.args.self.now.meta c.args.atom.now c.in-Exists-default.col-0
    c.args.candidates.now c.in_ok-copy-in-Exists-default.field-0 c.in-Exists-default.is-0 c.requires.unknown c.requires.length
    c.in_ok-copy-in-Exists-default.ensures.copied m means
