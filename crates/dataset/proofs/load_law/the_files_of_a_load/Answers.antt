use Rattle.std.proofs.Common.{refl}
use Rattle.std.specs.Fmt.{digits}
use Rattle.wah_words.specs.Bytes.{active_bytes, number_bytes as word_bytes, spelling, words_bytes}
use Rattle.wah_words.specs.Spelling.{groups_in, regular_words, rest_of}
use Rattle.column_file.specs.Values.{number_bytes, values_bytes}
use Rattle.fb_types.specs.Types.{type_name}
use Rattle.part_meta.specs.CatalogText.{catalog_text, next_line, part_line, schema_line, title_line}
use Rattle.part_meta.specs.FileNames.{catalog_name, file_name, leaf, part_folder}
use Rattle.part_meta.specs.PartText.{column_begin_line, column_end_line, count_line, header_begin_line, header_end_line, name_line, number_line, part_text, rows_line, type_line}
use Rattle.world.specs.PartFiles.{column_files, part_files}
use Rattle.dataset.specs.Appended.{append_files}
use Rattle.dataset.proofs.load_law.the_files_of_a_load.Goals as goal

pub returns : goal.returns
unfolding append_files part_files column_files catalog_name file_name part_folder leaf values_bytes number_bytes spelling word_bytes active_bytes words_bytes regular_words groups_in rest_of part_text column_begin_line column_end_line count_line header_begin_line header_end_line name_line number_line rows_line type_line type_name digits catalog_text title_line schema_line next_line part_line
returns c = refl
