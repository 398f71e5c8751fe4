-- What a question comes to where the files stand for a world.
use Rattle.std.proofs.Common.{◌≡◌, ◌+◌, ◌≤◌, ℕ, List, length, map, Option, Some, None, IfSome, Result, Ok, Err, refl, sym, ap, subst, ◌∙◌, arith}
use Rattle.std.specs.List.{All, slice_get}
use Rattle.std.specs.Prelude.{IfErr, IfOk}
use Rattle.std.proofs.lemmas.List.{length-map}
use Rattle.fb_outside.specs.Files.{Files}
use Rattle.fb_outside.specs.Names.{IsPath}
use Rattle.fb_types.specs.declared.schemas.Column.{Column}
use Rattle.part_meta.specs.declared.part.PartMeta.{PartMeta}
use Rattle.where_grammar.specs.declared.clause.Clause.{Clause}
use Rattle.where_grammar.specs.declared.clause.QueryKind.{QueryKind}
use Rattle.where_plan.specs.PlanOf.{plan_of}
use Rattle.where_plan.specs.Plans.{IsPlan}
use Rattle.where_plan.specs.declared.plan.Plan.{Plan}
use Rattle.where_plan.proofs.PlanOfLemmas.{is_plan_of}
use Rattle.world.specs.PartFiles.{part_data}
use Rattle.world.specs.Stands.{PartRests, Stands, StandsFor}
use Rattle.world.specs.World.{Content, IsPartition, Partition, World, content_at}
use Rattle.world.proofs.PlaceLemmas.{All-at}
use Rattle.dataset.specs.Found.{Found, IsFound, There, dataset_in, found_by, found_in}
use Rattle.dataset.specs.declared.content.Dataset.{Dataset}
use Rattle.dataset.proofs.ListLemmas.{map-at}
use Rattle.dataset.proofs.WorldLemmas.{found_is}
use Rattle.part_meaning.specs.Meaning.{IsPartAt}
use Rattle.query_engine.specs.Damage.{NoDamage}
use Rattle.query_engine.specs.Parts.{AreParts, checked_over, definite_over, hits_over, possible_over}
use Rattle.query_engine.specs.Reads.{steps_over}
use Rattle.query_engine.specs.declared.fault.AskFault.{AskFault}
use Rattle.query_engine.specs.declared.fault.AskFault.TheVariants as ask
use Rattle.stages.specs.declared.walk.Bounds.{Bounds}
use Rattle.statuses.specs.declared.Status.{Status}
use Rattle.statuses.specs.declared.Status.TheVariants.{BadQuery}
use Rattle.statuses.specs.declared.stop.Unanswered.{Unanswered}
use Rattle.statuses.specs.declared.stop.Unanswered.TheVariants.{Refused, StoreFault, OutOfMemory}
use Rattle.ibis_answer.specs.declared.answering.Counted.{Counted}
use Rattle.ibis_answer.specs.declared.asking.Question.{Question}
use Rattle.ibis_answer.specs.Answer.{asked_in, asked_of, between_in, counted_in, numbers_of}
use Rattle.ibis_answer.specs.Asked.{Asks, IsAsked, IsRefusedSo, stop_of_ask}
use Rattle.ibis_answer.specs.Causes.{IfGiven, IsOfWorld}
use Rattle.ibis_answer.specs.Looks.{steps_in, steps_of}
use Rattle.ibis_answer.specs.Query.{read_clause}
use Rattle.ibis_answer.proofs.HitLemmas.{hits_of_parts}
use Rattle.ibis_answer.proofs.QueryLemmas.{asked_planned, asked_refused}

some_same : {X : Type 0} {x y : X} → Some x ≡ Some y → x ≡ y
some_same e = cc

-- What was asked is asked in the world: the path has this content, and the plan is its clause's.
pub record IsAskedIn (m : Files) (world : World) (dir query : List ℕ) (question : Question) (clause : Option Clause) : Type 0 where
  pub content : Content
  pub at : content_at world dir ≡ Some content
  pub same : question.dataset ≡ dataset_in dir content
  pub planned : IsPlan content.schema clause question.plan
  pub asked : asked_of dir query (found_in world dir) ≡ Ok clause
  pub valid : All (IsPartition content.schema) content.parts
  pub parts : AreParts (Some m) question.dataset content.parts

module _ (m : Files) (world : World) (dir : List ℕ) (stands : Stands m world) (path : IsPath dir) where
  part_there : (content : Content) → content_at world dir ≡ Some content → (place : ℕ) (meta : PartMeta) (part : Partition)
      → slice_get (map (part_data content.schema) content.parts) place ≡ Some meta → slice_get content.parts place ≡ Some part → IsPartAt (Some m) dir meta part
  part_there content at place meta part listed there =
      let from = map-at (part_data content.schema) content.parts place meta listed in
      let same : from.from ≡ part = some_same (sym from.at ∙ there) in
      let is : part_data content.schema part ≡ meta = ap (part_data content.schema) (sym same) ∙ from.is in
      subst (λ (p : PartMeta). IsPartAt (Some m) dir p part) is
      (record {
        is = refl;
        valid = All-at (IsPartition content.schema) content.parts place part there (stands.valid dir content at).parts;
        rests = All-at (PartRests m dir content.schema) content.parts place part there (stands.rests dir content at).parts;
      })

  pub are_parts : (content : Content) → content_at world dir ≡ Some content → AreParts (Some m) (dataset_in dir content) content.parts
  are_parts content at = record {
    number = sym (length-map content.parts (part_data content.schema));
    each = part_there content at;
  }

  asked_by : (query : List ℕ) (question : Question) (clause : Option Clause) → read_clause query ≡ Ok clause → IsPlan question.dataset.schema clause question.plan
      → (found : Option Content) → content_at world dir ≡ found → There question.dataset ≡ found_by dir found → IsAskedIn m world dir query question clause
  asked_by query question clause read planned None at e = absurd (cc)
  asked_by query question clause read planned (Some content) at e =
      let same : question.dataset ≡ dataset_in dir content = cc in
      record {
        content = content;
        at = at;
        same = same;
        planned = subst (λ (d : Dataset). IsPlan d.schema clause question.plan) same planned;
        asked = ap (λ (found : Option Content). asked_of dir query (found_by dir found)) at ∙ ap (asked_of dir query) (sym e)
            ∙ asked_planned dir query question.dataset clause question.plan read planned;
        valid = (stands.valid dir content at).parts;
        parts = subst (λ (d : Dataset). AreParts (Some m) d content.parts) (sym same) (are_parts content at);
      }

  pub asked_in_world : (query : List ℕ) (question : Question) (is : IsAsked dir query (Some m) question) → IsAskedIn m world dir query question is.clause
  asked_in_world query question is =
      asked_by query question is.clause is.read is.planned (content_at world dir) refl (found_is m world dir (There question.dataset) stands path is.there)

  refused_by : (query : List ℕ) (status : Status) (h : IsRefusedSo dir query (Some m) status) (read : Result (Option Clause) QueryKind) → read_clause query ≡ read
      → asked_of dir query (found_in world dir) ≡ Err status
  refused_by query status h (Err kind) e =
      asked_refused dir query (found_in world dir) kind e ∙ sym (asked_refused dir query h.found kind e) ∙ h.is
  refused_by query status h (Ok clause) e =
      let told : IsFound m dir h.found = subst (λ (r : Result (Option Clause) QueryKind). IfOk r (λ c. IsFound m dir h.found)) e h.found_told in
      ap (asked_of dir query) (sym (found_is m world dir h.found stands path told)) ∙ h.is

  -- a refusal is the world's
  pub refused_in_world : (query : List ℕ) (status : Status) → IsRefusedSo dir query (Some m) status → asked_of dir query (found_in world dir) ≡ Err status
  refused_in_world query status h = refused_by query status h (read_clause query) refl

-- ---- what is given is of the world

pub refused_of_world : {A : Type 0} (numbers : Option Clause → Option Content → A) (dir query : List ℕ) (files : Option Files) (stop : Unanswered) → IsPath dir
    → Asks dir query files (Err stop) → IsOfWorld numbers dir query files (Err stop)
refused_of_world numbers dir query None stop path h world stands = absurd stands
refused_of_world {A} numbers dir query (Some m) (Refused status) path h world stands =
    ap (λ (r : Result (Option Clause) Status). numbers_of numbers r (content_at world dir)) (sym (refused_in_world m world dir stands path query status h))
refused_of_world numbers dir query (Some m) StoreFault path h world stands = tt
refused_of_world numbers dir query (Some m) OutOfMemory path h world stands = tt

stops_of_world : {A : Type 0} (P : Result A Status → Type 0) (fault : AskFault) → NoDamage fault → IfGiven {A = A} (Err (stop_of_ask fault)) P
stops_of_world P (ask.Damaged file kind want have) h = absurd h
stops_of_world P ask.Store h = tt
stops_of_world P ask.OutOfMemory h = tt

-- where the files rest no file is damaged
pub stopped_of_world : {A : Type 0} (numbers : Option Clause → Option Content → A) (dir query : List ℕ) (files after : Option Files) (question : Question) (fault : AskFault)
    → IsPath dir → IsAsked dir query files question → after ≡ files
    → ((parts : List Partition) → AreParts after question.dataset parts → NoDamage fault) → IsOfWorld numbers dir query files (Err (stop_of_ask fault))
stopped_of_world numbers dir query None after question fault path is kept whole world stands = absurd stands
stopped_of_world numbers dir query (Some m) after question fault path is kept whole world stands =
    let there = asked_in_world m world dir stands path query question is in
    stops_of_world (λ given. given ≡ asked_in numbers dir query world) fault
    (whole there.content.parts (subst (λ (f : Option Files). AreParts f question.dataset there.content.parts) (sym kept) there.parts))

given_in : {A : Type 0} (numbers : Option Clause → Option Content → A) (dir query : List ℕ) (world : World) (clause : Option Clause) (content : Content) (given : A)
    → asked_of dir query (found_in world dir) ≡ Ok clause → content_at world dir ≡ Some content → given ≡ numbers clause (Some content)
    → Ok given ≡ asked_in numbers dir query world
given_in numbers dir query world clause content given asked at e =
    ap Ok (e ∙ ap (numbers clause) (sym at)) ∙ ap (λ (r : Result (Option Clause) Status). numbers_of numbers r (content_at world dir)) (sym asked)

-- numbers that are the plan's over the parts
abbrev OverParts : {A : Type 0} → Option Files → Dataset → (List Partition → A) → A → Type 0
OverParts files dataset of_parts given = (parts : List Partition) → AreParts files dataset parts → given ≡ of_parts parts

pub counted_of_world : (dir query : List ℕ) (files after : Option Files) (question : Question) (hits checked : ℕ) → IsPath dir → IsAsked dir query files question
    → after ≡ files → ((parts : List Partition) → AreParts after question.dataset parts → hits ≡ hits_over question.plan parts)
    → ((parts : List Partition) → AreParts after question.dataset parts → checked ≡ checked_over question.dataset.schema parts question.plan)
    → IsOfWorld counted_in dir query files (Ok (record { hits = hits; checked = checked }))
counted_of_world dir query None after question hits checked path is kept some few world stands = absurd stands
counted_of_world dir query (Some m) after question hits checked path is kept some few world stands =
    let there = asked_in_world m world dir stands path query question is in
    let parts = subst (λ (f : Option Files). AreParts f question.dataset there.content.parts) (sym kept) there.parts in
    let planned = is_plan_of there.content.schema is.clause question.plan there.planned in
    let all = some there.content.parts parts ∙ hits_of_parts there.content.schema is.clause question.plan there.planned there.content.parts there.valid in
    let values = few there.content.parts parts
    ∙ ap (λ (d : Dataset). checked_over d.schema there.content.parts question.plan) there.same
    ∙ ap (checked_over there.content.schema there.content.parts) planned in
    given_in counted_in dir query world is.clause there.content (record { hits = hits; checked = checked }) there.asked there.at
    (ap (λ n. let c : Counted = record { hits = n; checked = checked } in c) all
    ∙ ap (λ n. let c : Counted = record { hits = hits_of there.content; checked = n } in c) values)
  where
    hits_of : Content → ℕ
    hits_of content = Rattle.ibis_answer.specs.Answer.hits is.clause content

pub between_of_world : (dir query : List ℕ) (files after : Option Files) (question : Question) (bounds : Bounds) → IsPath dir → IsAsked dir query files question
    → after ≡ files → ((parts : List Partition) → AreParts after question.dataset parts → bounds.definite ≡ definite_over question.dataset.schema parts question.plan)
    → ((parts : List Partition) → AreParts after question.dataset parts → bounds.possible ≡ possible_over question.dataset.schema parts question.plan)
    → IsOfWorld between_in dir query files (Ok bounds)
between_of_world dir query None after question bounds path is kept low high world stands = absurd stands
between_of_world dir query (Some m) after question bounds path is kept low high world stands =
    let there = asked_in_world m world dir stands path query question is in
    let parts = subst (λ (f : Option Files). AreParts f question.dataset there.content.parts) (sym kept) there.parts in
    let planned = is_plan_of there.content.schema is.clause question.plan there.planned in
    let least = low there.content.parts parts
    ∙ ap (λ (d : Dataset). definite_over d.schema there.content.parts question.plan) there.same
    ∙ ap (definite_over there.content.schema there.content.parts) planned in
    let most = high there.content.parts parts
    ∙ ap (λ (d : Dataset). possible_over d.schema there.content.parts question.plan) there.same
    ∙ ap (possible_over there.content.schema there.content.parts) planned in
    given_in between_in dir query world is.clause there.content bounds there.asked there.at
    (ap (λ n. let b : Bounds = record { definite = n; possible = bounds.possible } in b) least
    ∙ ap (λ n. let b : Bounds = record { definite = definite_over there.content.schema there.content.parts (plan_of there.content.schema is.clause); possible = n } in b) most)

-- ---- steps

pub steps_of_world : (dir query : List ℕ) (files after : Option Files) (question : Question) (before now : ℕ) → IsPath dir → IsAsked dir query files question
    → after ≡ files → ((parts : List Partition) → AreParts after question.dataset parts → now ≤ before + steps_over question.dataset parts question.plan)
    → (world : World) → StandsFor files world → now ≤ before + steps_in dir query world
steps_of_world dir query None after question before now path is kept few world stands = absurd stands
steps_of_world dir query (Some m) after question before now path is kept few world stands =
    let there = asked_in_world m world dir stands path query question is in
    let planned = is_plan_of there.content.schema is.clause question.plan there.planned in
    let bound = few there.content.parts (subst (λ (f : Option Files). AreParts f question.dataset there.content.parts) (sym kept) there.parts) in
    let same : steps_over question.dataset there.content.parts question.plan ≡ steps_in dir query world =
    ap (λ (d : Dataset). steps_over d there.content.parts question.plan) there.same
    ∙ ap (steps_over (dataset_in dir there.content) there.content.parts) planned
    ∙ ap (λ (c : Option Content). steps_of dir (Ok is.clause) c) (sym there.at)
    ∙ ap (λ (r : Result (Option Clause) Status). steps_of dir r (content_at world dir)) (sym there.asked) in
    subst (λ n. now ≤ before + n) same bound
