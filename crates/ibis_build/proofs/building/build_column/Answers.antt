use Rattle.std.proofs.Common.{◌≡◌, ◌≢◌, [], ◌∷◌, ℕ, List, Option, false, Some, Ok, Err, refl, sym, ap, ◌∙◌}
use Rattle.std.specs.List.{slice_get}
use Rattle.std.specs.Option.{option_map_or}
use Rattle.fb_outside.proofs.FileLemmas.{ChangesAmong-weaken}
use Rattle.fb_outside.proofs.ReadLemmas.{AddsOnly-weaken}
use Rattle.fb_types.specs.declared.schemas.Column.{Column}
use Rattle.world.specs.PartFiles.{part_data}
use Rattle.index_build.specs.Build.{IsColumnLook}
use Rattle.index_build.specs.declared.fault.BuildFault.TheVariants.{Store}
use Rattle.ibis_build.specs.Columns.{can_have_index}
use Rattle.ibis_build.specs.Looks.{IsLookAmong}
use Rattle.ibis_build.proofs.PutLemmas.{among-it, put-one, sound-one, stop-built}
use Rattle.ibis_build.proofs.WorldLemmas.{leaves-one}
use Rattle.ibis_build.proofs.building.build_column.Goals as goal

pub returns-in-Ok-clause-reads : goal.returns-in-Ok-clause-reads
returns-in-Ok-clause-reads g c =
    let there : slice_get c.args.dataset.now.schema c.args.col ≡ Some c.in-Some.column.now = sym c.in-Some.ensures in
    AddsOnly-weaken (IsColumnLook c.args.dataset.now.dir c.in-Some.column.now) (IsLookAmong c.args.dataset.now (c.args.col ∷ [])) _ _
    (λ look w. record {
      column = c.in-Some.column.now;
      among = record { place = 0; col = c.args.col; asked = refl; in_schema = there };
      file = w;
    }) c.build.ensures.reads

pub returns-in-Err-clause-reads : goal.returns-in-Err-clause-reads
returns-in-Err-clause-reads g c =
    let there : slice_get c.args.dataset.now.schema c.args.col ≡ Some c.in-Some.column.now = sym c.in-Some.ensures in
    AddsOnly-weaken (IsColumnLook c.args.dataset.now.dir c.in-Some.column.now) (IsLookAmong c.args.dataset.now (c.args.col ∷ [])) _ _
    (λ look w. record {
      column = c.in-Some.column.now;
      among = record { place = 0; col = c.args.col; asked = refl; in_schema = there };
      file = w;
    }) c.build.ensures.reads

pub returns-in-Ok-clause-kept : goal.returns-in-Ok-clause-kept
returns-in-Ok-clause-kept g c =
    let there : slice_get c.args.dataset.now.schema c.args.col ≡ Some c.in-Some.column.now = sym c.in-Some.ensures in
    ChangesAmong-weaken _ _
    (λ q e. record {
      column = c.in-Some.column.now;
      among = record { place = 0; col = c.args.col; asked = refl; in_schema = there };
      is = e;
    }) c.build.ensures.kept

pub returns-in-Err-clause-kept : goal.returns-in-Err-clause-kept
returns-in-Err-clause-kept g c =
    let there : slice_get c.args.dataset.now.schema c.args.col ≡ Some c.in-Some.column.now = sym c.in-Some.ensures in
    ChangesAmong-weaken _ _
    (λ q e. record {
      column = c.in-Some.column.now;
      among = record { place = 0; col = c.args.col; asked = refl; in_schema = there };
      is = e;
    }) c.build.ensures.kept

pub returns-in-Ok-clause-puts : goal.returns-in-Ok-clause-puts
returns-in-Ok-clause-puts g c =
    let there : slice_get c.args.dataset.now.schema c.args.col ≡ Some c.in-Some.column.now = sym c.in-Some.ensures in
    put-one c.args.dataset.now c.requires.listed.0 c.args.part.now c.requires.listed.1 c.args.col c.in-Some.column.now there _ c.args.spec.now
    c.in-Ok.field-0 _ c.in-Ok.ensures.leaves

pub returns-in-Ok-clause-sound : goal.returns-in-Ok-clause-sound
returns-in-Ok-clause-sound g c =
    let there : slice_get c.args.dataset.now.schema c.args.col ≡ Some c.in-Some.column.now = sym c.in-Some.ensures in
    sound-one c.args.dataset.now c.requires.listed.0 c.args.part.now c.requires.listed.1 c.args.col c.in-Some.column.now there _ c.in-Ok.field-0
    c.in-Ok.ensures.damaged

pub returns-in-Ok-clause-stands : goal.returns-in-Ok-clause-stands
returns-in-Ok-clause-stands g c =
    let there : slice_get c.args.dataset.now.schema c.args.col ≡ Some c.in-Some.column.now = sym c.in-Some.ensures in
    λ world content place p h has listed same is.
    leaves-one _ _ world c.args.dataset.now.dir content place p c.args.col c.in-Some.column.now c.args.spec.now c.args.part.now h has listed
    (ap (λ (s : List Column). slice_get s c.args.col) same ∙ there)
    (sym (ap (λ (o : Option Column). option_map_or can_have_index o false) there) ∙ c.requires.can) is (Ok c.in-Ok.field-0) c.in-Ok.ensures.leaves c.in-Ok.ensures.answer
    (λ of. c.in-Ok.ensures.stands world p c.args.col h of (is ∙ ap (λ (s : List Column). part_data s p) same)) (λ fault e apart. absurd (cc))

pub returns-in-Err-clause-stop : goal.returns-in-Err-clause-stop
returns-in-Err-clause-stop g c =
    let there : slice_get c.args.dataset.now.schema c.args.col ≡ Some c.in-Some.column.now = sym c.in-Some.ensures in
    rw c.stop_of_build.ensures
    (stop-built c.args.dataset.now c.requires.listed.0 c.args.part.now c.requires.listed.1 c.args.col c.in-Some.column.now there _ c.args.spec.now
    c.in-Err.fault c.in-Err.ensures.stop c.in-Err.ensures.damaged c.in-Err.ensures.answer)

pub returns-in-Err-clause-stands : goal.returns-in-Err-clause-stands
returns-in-Err-clause-stands g c =
    let there : slice_get c.args.dataset.now.schema c.args.col ≡ Some c.in-Some.column.now = sym c.in-Some.ensures in
    λ world content place p h has listed same is.
    rw c.stop_of_build.ensures
    (leaves-one _ _ world c.args.dataset.now.dir content place p c.args.col c.in-Some.column.now c.args.spec.now c.args.part.now h has listed
    (ap (λ (s : List Column). slice_get s c.args.col) same ∙ there)
    (sym (ap (λ (o : Option Column). option_map_or can_have_index o false) there) ∙ c.requires.can) is (Err c.in-Err.fault) c.in-Err.ensures.leaves c.in-Err.ensures.answer
    (λ of. c.in-Err.ensures.stands world p c.args.col h of (is ∙ ap (λ (s : List Column). part_data s p) same))
    (λ fault e apart. c.in-Err.ensures.refused (λ s. apart (let same : c.in-Err.fault ≡ fault = cc in sym same ∙ s))))
