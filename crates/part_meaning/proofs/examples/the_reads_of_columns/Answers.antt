use Rattle.std.proofs.Common.{refl}
use Rattle.std.specs.Fmt.{digits}
use Rattle.wah_words.specs.Bytes.{active_bytes, number_bytes as word_bytes, spelling, words_bytes}
use Rattle.wah_words.specs.Spelling.{groups_in, regular_words, rest_of}
use Rattle.wah_logic.specs.Logic.{each_place, union}
use Rattle.index_spec.specs.Printed.{printed, printed_binning, printed_encoding}
use Rattle.part_meta.specs.FileNames.{file_name, leaf, part_folder}
use Rattle.part_meaning.specs.Bitmaps.{index_places}
use Rattle.part_meaning.specs.Files.{is_bitmap_of, is_free_of, is_of_rows}
use Rattle.part_meaning.proofs.examples.the_reads_of_columns.Goals as goal

pub returns-clause-values : goal.returns-clause-values
unfolding is_of_rows file_name leaf part_folder
returns-clause-values c = refl

pub returns-clause-other_rows : goal.returns-clause-other_rows
unfolding is_of_rows file_name leaf part_folder
returns-clause-other_rows c = refl

pub returns-clause-past : goal.returns-clause-past
unfolding is_of_rows file_name leaf part_folder
returns-clause-past c = refl

pub returns-clause-mask : goal.returns-clause-mask
unfolding is_free_of file_name leaf part_folder
returns-clause-mask c = refl

pub returns-clause-no_values : goal.returns-clause-no_values
unfolding is_free_of file_name leaf part_folder
returns-clause-no_values c = refl

pub returns-clause-no_words : goal.returns-clause-no_words
unfolding is_free_of file_name leaf part_folder
returns-clause-no_words c = refl

pub returns-clause-words : goal.returns-clause-words
unfolding is_free_of file_name leaf part_folder
returns-clause-words c = refl

pub returns-clause-head : goal.returns-clause-head
unfolding is_bitmap_of index_places printed printed_binning printed_encoding digits each_place union spelling word_bytes active_bytes words_bytes regular_words groups_in rest_of file_name leaf part_folder
returns-clause-head c = refl

pub returns-clause-bitmap : goal.returns-clause-bitmap
unfolding is_bitmap_of index_places printed printed_binning printed_encoding digits each_place union spelling word_bytes active_bytes words_bytes regular_words groups_in rest_of file_name leaf part_folder
returns-clause-bitmap c = refl

pub returns-clause-both : goal.returns-clause-both
unfolding is_bitmap_of index_places printed printed_binning printed_encoding digits each_place union spelling word_bytes active_bytes words_bytes regular_words groups_in rest_of file_name leaf part_folder
returns-clause-both c = refl
