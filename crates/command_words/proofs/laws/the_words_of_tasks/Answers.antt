use Rattle.std.proofs.Common.{refl}
use Rattle.command_words.specs.Places.{are_in_order, is_value}
use Rattle.command_words.specs.Words.{ardea_by, gen_by, ibis_by, is_path, number_of, request_of, session_by, task_count, task_of}
use Rattle.command_words.proofs.laws.the_words_of_tasks.Goals as goal

pub returns : goal.returns
unfolding request_of ardea_by ibis_by session_by gen_by task_of task_count number_of is_path are_in_order is_value
returns c = record {
  told = refl;
  value = refl;
  list = refl;
  build = refl;
  twice = refl;
  joined = refl;
  no_task = refl;
  two_tasks = refl;
  untold = refl;
}
