use Rattle.std.proofs.Common.{refl}
use Rattle.wah_words.specs.Bytes.{active_bytes, number_bytes as word_bytes, spelling, words_bytes}
use Rattle.wah_words.specs.Spelling.{groups_in, regular_words, rest_of}
use Rattle.column_file.specs.Values.{number_bytes, values_bytes}
use Rattle.text_column.specs.DictionaryFile.{dictionary_bytes}
use Rattle.text_column.specs.Texts.{starts_bytes}
use Rattle.part_meta.specs.FileNames.{file_name, leaf, part_folder}
use Rattle.world.specs.PartFiles.{column_files}
use Rattle.world.proofs.the_files_of_columns.Goals as goal

pub returns-clause-null : goal.returns-clause-null
unfolding column_files file_name part_folder leaf values_bytes number_bytes spelling word_bytes active_bytes words_bytes regular_words groups_in rest_of
returns-clause-null c = refl

pub returns-clause-numbers : goal.returns-clause-numbers
unfolding column_files file_name part_folder leaf values_bytes number_bytes spelling word_bytes active_bytes words_bytes regular_words groups_in rest_of
returns-clause-numbers c = refl

pub returns-clause-words : goal.returns-clause-words
unfolding column_files file_name part_folder leaf values_bytes number_bytes spelling dictionary_bytes word_bytes active_bytes words_bytes regular_words groups_in rest_of
returns-clause-words c = refl

pub returns-clause-texts : goal.returns-clause-texts
unfolding column_files file_name part_folder leaf spelling starts_bytes word_bytes active_bytes words_bytes regular_words groups_in rest_of
returns-clause-texts c = refl
