-- What the first stage of a part's condition answers and reads by what the part means, condition by condition.
use Rattle.std.proofs.Common.{◌≡◌, ℕ, List, IfOk, refl, sym, ap, subst, ◌∙◌}
use Rattle.std.specs.Prelude.{IfErr}
use Rattle.std.proofs.lemmas.Result.{IfOk-weaker}
use Rattle.binning.specs.declared.against_bins.Three.{Three}
use Rattle.stages.specs.declared.conditions.Settled.{Settled}
use Rattle.where_plan.specs.declared.plan.PlanAtom.TheVariants as atom
use Rattle.two_stage.specs.declared.open_column.OpenColumn.{OpenColumn}
use Rattle.two_stage.proofs.MeantLemmas.{IsMeant, meant, meant_kept, meant_length, meant_looks, meant_stop, meant_work}
use Rattle.two_stage.proofs.conditions.PartConditionsConditions.settle.Given.{Over}
use Rattle.two_stage.proofs.conditions.PartConditionsConditions.settle.Goals as goal

abbrev answers_of : Settled OpenColumn → List Three
answers_of settled = settled.answers

abbrev column_of : Settled OpenColumn → OpenColumn
column_of settled = settled.column

-- ---- numbers

whole_by : (g : Over) (c : goal.After-settle_numbers g)
    → IsMeant (g.S.Store.files c.args.store.now) c.args.self.now.dir c.args.self.now.meta c.args.atom.now
    (g.S.Store.reads c.args.store.now) (g.S.Store.reads c.settle_numbers.new.store) answers_of c.settle_numbers.result
whole_by g c =
    meant (g.S.Store.files c.args.store.now) c.args.self.now.dir c.args.self.now.meta c.placed.ensures.part c.args.atom.now
    (λ col. atom.Whole col c.in-Whole.spans) c.in-Whole.col c.in-Whole.is refl c.requires.fits c.placed.result c.placed.ensures.place
    (g.S.Store.reads c.args.store.now) (g.S.Store.reads c.settle_numbers.new.store) answers_of c.settle_numbers.result
    (record { answers = c.settle_numbers.ensures.answers; whole = c.settle_numbers.ensures.whole; reads = c.settle_numbers.ensures.reads })

pub returns-in-Whole-clause-looks : goal.returns-in-Whole-clause-looks
returns-in-Whole-clause-looks g c =
    meant_looks (g.S.Store.files c.args.store.now) c.args.self.now.dir c.args.self.now.meta c.placed.ensures.part c.args.atom.now
    (λ col. atom.Whole col c.in-Whole.spans) c.in-Whole.col c.in-Whole.is refl c.requires.fits c.placed.result c.placed.ensures.place
    (g.S.Store.reads c.args.store.now) (g.S.Store.reads c.settle_numbers.new.store) c.settle_numbers.ensures.looks

pub returns-in-Whole-clause-answers : goal.returns-in-Whole-clause-answers
returns-in-Whole-clause-answers g c = (whole_by g c).answers

pub returns-in-Whole-clause-whole : goal.returns-in-Whole-clause-whole
returns-in-Whole-clause-whole g c = (whole_by g c).whole

pub returns-in-Whole-clause-reads : goal.returns-in-Whole-clause-reads
returns-in-Whole-clause-reads g c = (whole_by g c).reads

pub returns-in-Whole-clause-steps : goal.returns-in-Whole-clause-steps
returns-in-Whole-clause-steps g c =
    meant_work (g.S.Store.files c.args.store.now) c.args.self.now.dir c.args.self.now.meta c.placed.ensures.part c.args.atom.now
    (λ col. atom.Whole col c.in-Whole.spans) c.in-Whole.col c.in-Whole.is refl c.requires.fits c.placed.result c.placed.ensures.place
    c.args.steps.now c.settle_numbers.new.steps c.settle_numbers.ensures.steps

-- ---- texts

texts_by : (g : Over) (c : goal.After-settle_texts g)
    → IsMeant (g.S.Store.files c.args.store.now) c.args.self.now.dir c.args.self.now.meta c.args.atom.now
    (g.S.Store.reads c.args.store.now) (g.S.Store.reads c.settle_texts.new.store) answers_of c.settle_texts.result
texts_by g c =
    meant (g.S.Store.files c.args.store.now) c.args.self.now.dir c.args.self.now.meta c.placed-placed.ensures.part c.args.atom.now
    (λ col. atom.Word col c.in-Word.atom) c.in-Word.col c.in-Word.is refl c.requires.fits c.placed-placed.result c.placed-placed.ensures.place
    (g.S.Store.reads c.args.store.now) (g.S.Store.reads c.settle_texts.new.store) answers_of c.settle_texts.result
    (record {
      answers = IfOk-weaker c.settle_texts.result _ _ (λ settled h. h c.in-Word.atom) c.settle_texts.ensures.answers;
      whole = c.settle_texts.ensures.whole;
      reads = c.settle_texts.ensures.reads c.in-Word.atom;
    })

pub returns-in-Text-clause-looks : goal.returns-in-Text-clause-looks
returns-in-Text-clause-looks g c =
    meant_looks (g.S.Store.files c.args.store.now) c.args.self.now.dir c.args.self.now.meta c.placed-placed.ensures.part c.args.atom.now
    (λ col. atom.Word col c.in-Word.atom) c.in-Word.col c.in-Word.is refl c.requires.fits c.placed-placed.result c.placed-placed.ensures.place
    (g.S.Store.reads c.args.store.now) (g.S.Store.reads c.settle_texts.new.store) c.settle_texts.ensures.looks

pub returns-in-Text-clause-opened : goal.returns-in-Text-clause-opened
returns-in-Text-clause-opened g c =
    meant_kept (g.S.Store.files c.args.store.now) c.args.self.now.dir c.args.self.now.meta c.placed-placed.ensures.part c.args.atom.now
    (λ col. atom.Word col c.in-Word.atom) c.in-Word.col c.in-Word.is refl c.requires.fits c.placed-placed.result c.placed-placed.ensures.place
    column_of c.settle_texts.result
    (IfOk-weaker c.settle_texts.result _ _ (λ settled h. h c.in-Word.atom) c.settle_texts.ensures.kept)

pub returns-in-Text-clause-answers : goal.returns-in-Text-clause-answers
returns-in-Text-clause-answers g c = (texts_by g c).answers

pub returns-in-Text-clause-whole : goal.returns-in-Text-clause-whole
returns-in-Text-clause-whole g c = (texts_by g c).whole

pub returns-in-Text-clause-reads : goal.returns-in-Text-clause-reads
returns-in-Text-clause-reads g c = (texts_by g c).reads

-- ---- words

words_by : (g : Over) (c : goal.After-settle_words g)
    → IsMeant (g.S.Store.files c.args.store.now) c.args.self.now.dir c.args.self.now.meta c.args.atom.now
    (g.S.Store.reads c.args.store.now) (g.S.Store.reads c.settle_words.new.store) answers_of c.settle_words.result
words_by g c =
    meant (g.S.Store.files c.args.store.now) c.args.self.now.dir c.args.self.now.meta c.placed-placed.ensures.part c.args.atom.now
    (λ col. atom.Word col c.in-Word.atom) c.in-Word.col c.in-Word.is refl c.requires.fits c.placed-placed.result c.placed-placed.ensures.place
    (g.S.Store.reads c.args.store.now) (g.S.Store.reads c.settle_words.new.store) answers_of c.settle_words.result
    (record { answers = c.settle_words.ensures.answers; whole = c.settle_words.ensures.whole; reads = c.settle_words.ensures.reads })

pub returns-in_default : goal.returns-in_default
returns-in_default g c = record {
  cause = c.settle_words.ensures.cause;
  files = c.settle_words.ensures.files;
  stop = meant_stop (g.S.Store.files c.args.store.now) c.args.self.now.dir c.args.self.now.meta c.placed-placed.ensures.part c.args.atom.now
      (λ col. atom.Word col c.in-Word.atom) c.in-Word.col c.in-Word.is refl c.requires.fits c.placed-placed.result c.placed-placed.ensures.place
      c.settle_words.result c.settle_words.ensures.stop;
  looks = meant_looks (g.S.Store.files c.args.store.now) c.args.self.now.dir c.args.self.now.meta c.placed-placed.ensures.part c.args.atom.now
      (λ col. atom.Word col c.in-Word.atom) c.in-Word.col c.in-Word.is refl c.requires.fits c.placed-placed.result c.placed-placed.ensures.place
      (g.S.Store.reads c.args.store.now) (g.S.Store.reads c.settle_words.new.store) c.settle_words.ensures.looks;
  opened = meant_kept (g.S.Store.files c.args.store.now) c.args.self.now.dir c.args.self.now.meta c.placed-placed.ensures.part c.args.atom.now
      (λ col. atom.Word col c.in-Word.atom) c.in-Word.col c.in-Word.is refl c.requires.fits c.placed-placed.result c.placed-placed.ensures.place
      column_of c.settle_words.result c.settle_words.ensures.kept;
  length = meant_length (g.S.Store.files c.args.store.now) c.args.self.now.dir c.args.self.now.meta c.placed-placed.ensures.part c.args.atom.now
      (λ col. atom.Word col c.in-Word.atom) c.in-Word.col c.in-Word.is refl c.requires.fits c.placed-placed.result c.placed-placed.ensures.place
      answers_of c.settle_words.result c.settle_words.ensures.length;
  answers = (words_by g c).answers;
  whole = (words_by g c).whole;
  reads = (words_by g c).reads;
  steps = meant_work (g.S.Store.files c.args.store.now) c.args.self.now.dir c.args.self.now.meta c.placed-placed.ensures.part c.args.atom.now
      (λ col. atom.Word col c.in-Word.atom) c.in-Word.col c.in-Word.is refl c.requires.fits c.placed-placed.result c.placed-placed.ensures.place
      c.args.steps.now c.settle_words.new.steps c.settle_words.ensures.steps;
}

-- ---- whether there is a value

exists_by : (g : Over) (c : goal.After-settle_exists g)
    → IsMeant (g.S.Store.files c.args.store.now) c.args.self.now.dir c.args.self.now.meta c.args.atom.now
    (g.S.Store.reads c.args.store.now) (g.S.Store.reads c.settle_exists.new.store) answers_of c.settle_exists.result
exists_by g c =
    meant (g.S.Store.files c.args.store.now) c.args.self.now.dir c.args.self.now.meta c.placed-in-Exists.ensures.part c.args.atom.now
    atom.Exists c.in-Exists.col c.in-Exists.is refl c.requires.fits c.placed-in-Exists.result c.placed-in-Exists.ensures.place
    (g.S.Store.reads c.args.store.now) (g.S.Store.reads c.settle_exists.new.store) answers_of c.settle_exists.result
    (record { answers = c.settle_exists.ensures.answers; whole = c.settle_exists.ensures.whole; reads = c.settle_exists.ensures.reads })

pub returns-in-Exists-clause-looks : goal.returns-in-Exists-clause-looks
returns-in-Exists-clause-looks g c =
    meant_looks (g.S.Store.files c.args.store.now) c.args.self.now.dir c.args.self.now.meta c.placed-in-Exists.ensures.part c.args.atom.now
    atom.Exists c.in-Exists.col c.in-Exists.is refl c.requires.fits c.placed-in-Exists.result c.placed-in-Exists.ensures.place
    (g.S.Store.reads c.args.store.now) (g.S.Store.reads c.settle_exists.new.store) c.settle_exists.ensures.looks

pub returns-in-Exists-clause-answers : goal.returns-in-Exists-clause-answers
returns-in-Exists-clause-answers g c = (exists_by g c).answers

pub returns-in-Exists-clause-whole : goal.returns-in-Exists-clause-whole
returns-in-Exists-clause-whole g c = (exists_by g c).whole

pub returns-in-Exists-clause-reads : goal.returns-in-Exists-clause-reads
returns-in-Exists-clause-reads g c = (exists_by g c).reads
