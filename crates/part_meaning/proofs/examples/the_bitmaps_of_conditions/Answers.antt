use Rattle.std.proofs.Common.{refl}
use Rattle.std.specs.Fmt.{digits}
use Rattle.wah_words.specs.Bytes.{active_bytes, number_bytes as word_bytes, spelling, words_bytes}
use Rattle.wah_words.specs.Spelling.{groups_in, regular_words, rest_of}
use Rattle.wah_logic.specs.Logic.{each_place, union}
use Rattle.index_spec.specs.Printed.{printed, printed_binning, printed_encoding}
use Rattle.part_meta.specs.FileNames.{file_name, leaf, part_folder}
use Rattle.bin_answers.specs.BinRuns.{runs_from}
use Rattle.part_meaning.specs.Bitmaps.{bins_say, bitmap_looks, index_places, needed_of, work_of}
use Rattle.part_meaning.specs.Columns.{bins_in}
use Rattle.part_meaning.specs.Known.{bin_says}
use Rattle.part_meaning.proofs.examples.the_bitmaps_of_conditions.Goals as goal

pub returns-clause-says : goal.returns-clause-says
unfolding bins_in bin_says bins_say
returns-clause-says c = refl

pub returns-clause-equality : goal.returns-clause-equality
unfolding bins_in bin_says bins_say needed_of runs_from
returns-clause-equality c = refl

pub returns-clause-range : goal.returns-clause-range
unfolding bins_in bin_says bins_say needed_of runs_from
returns-clause-range c = refl

pub returns-clause-interval : goal.returns-clause-interval
unfolding bins_in bin_says bins_say needed_of runs_from
returns-clause-interval c = refl

pub returns-clause-two_level : goal.returns-clause-two_level
unfolding bins_in bin_says bins_say needed_of runs_from
returns-clause-two_level c = refl

pub returns-clause-work : goal.returns-clause-work
unfolding bins_in bin_says bins_say needed_of runs_from work_of
returns-clause-work c = refl

pub returns-clause-looks : goal.returns-clause-looks
unfolding bins_in bin_says bins_say needed_of runs_from bitmap_looks index_places printed printed_binning printed_encoding digits each_place union spelling word_bytes active_bytes words_bytes regular_words groups_in rest_of file_name leaf part_folder
returns-clause-looks c = refl

pub returns-clause-lowest : goal.returns-clause-lowest
unfolding bins_in bin_says bins_say needed_of runs_from bitmap_looks index_places printed printed_binning printed_encoding digits each_place union spelling word_bytes active_bytes words_bytes regular_words groups_in rest_of file_name leaf part_folder
returns-clause-lowest c = refl

pub returns-clause-exists : goal.returns-clause-exists
unfolding bins_say needed_of runs_from work_of
returns-clause-exists c = refl
