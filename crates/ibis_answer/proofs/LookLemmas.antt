-- The reads of a question: over every store, and where the files stand for a world.
use Rattle.std.proofs.Common.{◌≡◌, ◌⊎◌, ◌<◌, ◌≤◌, ◌||◌, inl, inr, ℕ, suc, Bool, true, false, cond, IsTrue, List, [], ◌∷◌, ◌++◌, map, Option, Some, None, IfSome, Result, Ok, Err, option_map, refl, sym, ap, subst, ◌∙◌, arith}
use Rattle.std.specs.Prelude.{IsOkAnd}
use Rattle.std.specs.List.{AllByRecursion, filter, list_any, slice_get}
use Rattle.std.specs.Str.{bytes_eq}
use Rattle.std.proofs.lemmas.Option.{slice_get-map}
use Rattle.std.proofs.lemmas.Slice.Eq.{bytes_eq-Decides}
use Rattle.fb_outside.specs.Files.{Files}
use Rattle.fb_outside.specs.Names.{IsPath}
use Rattle.fb_outside.specs.Reads.{AddsOnly, Look}
use Rattle.fb_outside.proofs.ReadLemmas.{AddsOnly-trans, AddsOnly-weaken, AddsReads-weaken, all_weaken}
use Rattle.fb_types.specs.declared.schemas.Column.{Column}
use Rattle.part_meta.specs.FileNames.{catalog_name, file_name, part_name}
use Rattle.part_meta.specs.declared.catalog.Catalog.{Catalog}
use Rattle.part_meta.specs.declared.names.FileKind.TheVariants.{PartText}
use Rattle.part_meta.proofs.FileNameLemmas.{file_is_no_catalog, same_file}
use Rattle.where_grammar.specs.declared.clause.Clause.{Clause}
use Rattle.where_grammar.specs.declared.clause.QueryKind.{QueryKind}
use Rattle.where_plan.specs.PlanOf.{plan_of}
use Rattle.where_plan.specs.Plans.{IsPlan}
use Rattle.where_plan.specs.declared.plan.Plan.{Plan}
use Rattle.where_plan.proofs.PlanOfLemmas.{is_plan_of}
use Rattle.three_valued.specs.Plans.{atoms_of}
use Rattle.stages.specs.Looks.{AddsLooks, Looks}
use Rattle.stages.proofs.ListLemmas.{all_at, any_at}
use Rattle.stages.proofs.LookLemmas.{adds_done, adds_front, adds_joined, adds_weaker}
use Rattle.world.specs.Stands.{Stands, StandsFor}
use Rattle.world.specs.World.{Content, Partition, World, catalog_data, content_at}
use Rattle.world.proofs.PlaceLemmas.{All-at}
use Rattle.dataset.specs.Found.{dataset_in, found_in}
use Rattle.dataset.specs.Looks.{IsListedLook, IsPartLook}
use Rattle.dataset.specs.Opened.{HasCatalog, IsDataset, IsPartOf, IsTextLook}
use Rattle.dataset.specs.declared.content.Dataset.{Dataset}
use Rattle.dataset.proofs.ListLemmas.{map-at}
use Rattle.dataset.proofs.SameLemmas.{same_catalog}
use Rattle.query_engine.specs.Parts.{AreParts}
use Rattle.query_engine.specs.Reads.{IsPlanLook, bitmaps_over, is_bitmap_over}
use Rattle.query_engine.proofs.NameLemmas.{IsOfPart, bitmap_of_part}
use Rattle.part_meaning.specs.Parts.{is_bitmap_in}
use Rattle.statuses.specs.declared.Status.{Status}
use Rattle.ibis_answer.specs.declared.asking.Question.{Question}
use Rattle.ibis_answer.specs.Answer.{asked_of}
use Rattle.ibis_answer.specs.Asked.{IsAsked}
use Rattle.ibis_answer.specs.Looks.{AddsAskedLooks, AddsPlanLooks, IsAnswerLook, IsClauseLook, IsOpeningLook, ReadsInWorld, is_text_in}
use Rattle.ibis_answer.specs.Query.{names, read_clause}
use Rattle.ibis_answer.proofs.NamedLemmas.{conditions_named, name_in}
use Rattle.ibis_answer.proofs.WorldLemmas.{asked_in_world}

-- ---- over every store

opening_is_answer : (dir query : List ℕ) (look : Look) (read : Result (Option Clause) QueryKind) → IsOkAnd read (λ clause. IsTextLook dir look)
    → IsOkAnd read (λ clause. IsTextLook dir look ⊎ IsClauseLook dir clause look)
opening_is_answer dir query look (Ok clause) is = inl is
opening_is_answer dir query look (Err kind) is = absurd is

pub opening_looks_of_answer : (dir query : List ℕ) (old new : Option (List Look)) → AddsOnly (IsOpeningLook dir query) old new → AddsOnly (IsAnswerLook dir query) old new
opening_looks_of_answer dir query old new h =
    AddsOnly-weaken (IsOpeningLook dir query) (IsAnswerLook dir query) old new (λ look is. opening_is_answer dir query look (read_clause query) is) h

clause_look : (dir : List ℕ) (clause : Option Clause) (dataset : Dataset) (plan : Plan) (look : Look) → IsDataset dataset → dataset.dir ≡ dir
    → IsPlan dataset.schema clause plan → IsPlanLook dataset plan look → IsClauseLook dir clause look
unfolding atoms_of
clause_look dir clause dataset plan look valid same is h =
    let condition = h.for_condition.atom in record {
      number = h.part.number;
      few = (All-at (IsPartOf dataset) dataset.parts h.place h.part h.listed valid.parts).0.number;
      name = name_in dataset.schema condition;
      named = all_at (λ c. names clause (name_in dataset.schema c) ≡ true) (atoms_of plan) h.for_condition.place condition
          (conditions_named dataset.schema clause plan is) h.for_condition.there;
      kind = h.kind;
      file = h.for_condition.is ∙ ap (λ d. file_name d h.part.number (Some (name_in dataset.schema condition)) h.kind) same;
    }

pub answer_looks : (dir query : List ℕ) (files : Option Files) (question : Question) (old mid new : Option (List Look)) → IsDataset question.dataset
    → question.dataset.dir ≡ dir → IsAsked dir query files question → AddsOnly (IsOpeningLook dir query) old mid
    → AddsOnly (IsPlanLook question.dataset question.plan) mid new → AddsOnly (IsAnswerLook dir query) old new
answer_looks dir query files question old mid new valid same is h k =
    AddsOnly-trans (IsAnswerLook dir query) old mid new (opening_looks_of_answer dir query old mid h)
    (AddsOnly-weaken (IsPlanLook question.dataset question.plan) (IsAnswerLook dir query) mid new
    (λ look w. subst (λ (r : Result (Option Clause) QueryKind). IsOkAnd r (λ clause. IsTextLook dir look ⊎ IsClauseLook dir clause look)) (sym is.read)
    (inr (clause_look dir is.clause question.dataset question.plan look valid same is.planned w))) k)

pub wrong : {X : Type 0} → false ≡ true → X
wrong e = absurd (cc)

-- ---- texts, where the files stand for a world

not_true : (b : Bool) → (b ≡ true → ⊥) → b ≡ false
not_true true wrong = absurd (wrong refl)
not_true false wrong = refl

or_first : (a b : Bool) → a ≡ true → (a || b) ≡ true
or_first true b e = refl
or_first false b e = absurd (cc)

or_second : (a b : Bool) → b ≡ true → (a || b) ≡ true
or_second true b e = refl
or_second false b e = e

none_pass : {X : Type 0} (test : X → Bool) (xs : List X) → ((place : ℕ) (x : X) → slice_get xs place ≡ Some x → test x ≡ false) → list_any test xs ≡ false
none_pass test [] none = refl
none_pass test (x ∷ xs) none = ap (λ b. b || list_any test xs) (none 0 x refl) ∙ none_pass test xs (λ place y there. none (suc place) y there)

none_filtered : (test : Look → Bool) (P : Look → Type 0) (xs : List Look) → AllByRecursion P xs → ((look : Look) → P look → test look ≡ false) → filter test xs ≡ []
none_filtered test P [] all none = refl
none_filtered test P (x ∷ xs) all none =
    ap (λ b. cond b (x ∷ filter test xs) (filter test xs)) (none x all.0) ∙ none_filtered test P xs all.1 none

module _ (m : Files) (world : World) (dir : List ℕ) (stands : Stands m world) (content : Content) (at : content_at world dir ≡ Some content) where
  has : HasCatalog m dir (catalog_data content)
  has = record { valid = (stands.valid dir content at).catalog; there = (stands.rests dir content at).catalog }

  low : (place : ℕ) (part : Partition) → slice_get content.parts place ≡ Some part → part.number < 4096
  low place part there =
      let numbers = map (λ (p : Partition). p.number) content.parts in
      let listed : slice_get numbers place ≡ Some part.number =
      slice_get-map (λ (p : Partition). p.number) content.parts place ∙ ap (option_map (λ (p : Partition). p.number)) there in
      let below = All-at (λ n. n < content.next) numbers place part.number listed (stands.valid dir content at).catalog.below in
      omega (arith, below, (stands.valid dir content at).catalog.next)

  -- the part that a listed text is of
  part_of_text : (look : Look) (h : IsPartLook m dir look) → (place : ℕ) × (part : Partition) × (slice_get content.parts place ≡ Some part) × (part.number ≡ h.number)
  part_of_text look h =
      let same : h.catalog ≡ catalog_data content = same_catalog m dir h.catalog (catalog_data content) h.has has in
      let from = map-at (λ (p : Partition). p.number) content.parts h.place h.number (ap (λ (c : Catalog). slice_get c.parts h.place) (sym same) ∙ h.listed) in
      (h.place, from.from, from.at, from.is)

  text_listed : (look : Look) → IsListedLook m dir look → is_text_in dir content look ≡ true
  unfolding is_text_in
  text_listed look (inl whole) =
      or_first (bytes_eq look.name (catalog_name dir)) (list_any (λ part. bytes_eq look.name (part_name dir part.number)) content.parts)
      ((bytes_eq-Decides look.name (catalog_name dir)).1 (ap (λ (l : Look). l.name) whole))
  text_listed look (inr h) =
      let of_part = part_of_text look h in
      or_second (bytes_eq look.name (catalog_name dir)) (list_any (λ part. bytes_eq look.name (part_name dir part.number)) content.parts)
      (any_at (λ (part : Partition). bytes_eq look.name (part_name dir part.number)) content.parts of_part.0 of_part.1 of_part.2
      ((bytes_eq-Decides look.name (part_name dir of_part.1.number)).1 (ap (λ (l : Look). l.name) h.whole ∙ ap (part_name dir) (sym of_part.3))))

  no_column : (look : Look) (number : ℕ) → number < 4096 → IsListedLook m dir look → IsOfPart dir number look.name → ⊥
  no_column look number less (inl whole) h =
      file_is_no_catalog dir dir number (Some h.column) h.kind h.called (sym h.is ∙ ap (λ (l : Look). l.name) whole)
  no_column look number less (inr text) h =
      let of_part = part_of_text look text in
      let below = low of_part.0 of_part.1 of_part.2 in
      let same = same_file dir dir number text.number (Some h.column) None h.kind PartText less (subst (λ n. n < 4096) of_part.3 below) h.called refl
      (sym h.is ∙ ap (λ (l : Look). l.name) text.whole) in
      let bad : Some h.column ≡ None = same.2 in cc

  no_bitmap : (look : Look) → IsListedLook m dir look → is_bitmap_over (dataset_in dir content) content.parts look ≡ false
  unfolding is_bitmap_over
  no_bitmap look listed =
      none_pass (λ (part : Partition). is_bitmap_in dir content.schema part look) content.parts (λ place part there.
      not_true (is_bitmap_in dir content.schema part look) (λ is.
      no_column look part.number (low place part there) listed (bitmap_of_part dir content.schema part look (stands.valid dir content at).catalog.schema is)))

  -- the texts alone, whatever else is allowed
  texts_read : (allowed : Look → Bool) (old new : Option (List Look)) → AddsOnly (IsListedLook m dir) old new
      → AddsLooks old new (λ look. is_text_in dir content look || allowed look) (is_bitmap_over (dataset_in dir content) content.parts) [] (Unit {0})
  texts_read allowed old new h =
      let is_bitmap = is_bitmap_over (dataset_in dir content) content.parts in
      AddsReads-weaken {P = AllByRecursion (IsListedLook m dir)} {Q = Looks (λ look. is_text_in dir content look || allowed look) is_bitmap [] (Unit {0})} old new (λ added all. record {
        each = all_weaken (IsListedLook m dir) (λ look. IsTrue (is_text_in dir content look || allowed look))
            (λ look is. or_first (is_text_in dir content look) (allowed look) (text_listed look is)) added all;
        left = [];
        front = ap (λ ys. ys ++ []) (none_filtered is_bitmap (IsListedLook m dir) added all no_bitmap);
        whole = λ _. refl;
      }) h

  -- and then what a plan reads
  plan_read : (allowed : Dataset → List Partition → Plan → Look → Bool) (clause : Option Clause) (old mid new : Option (List Look)) (done : Type 0)
      → AddsOnly (IsListedLook m dir) old mid
      → AddsLooks mid new (allowed (dataset_in dir content) content.parts (plan_of content.schema clause)) (is_bitmap_over (dataset_in dir content) content.parts)
      (bitmaps_over (dataset_in dir content) content.parts (plan_of content.schema clause)) done
      → AddsPlanLooks allowed dir clause content old new done
  plan_read allowed clause old mid new done h k =
      let dataset = dataset_in dir content in
      let plan = plan_of content.schema clause in
      let is_bitmap = is_bitmap_over dataset content.parts in
      let either : Look → Bool = λ look. is_text_in dir content look || allowed dataset content.parts plan look in
      adds_joined old mid new either is_bitmap [] (bitmaps_over dataset content.parts plan) (Unit {0}) done tt
      (texts_read (allowed dataset content.parts plan) old mid h)
      (adds_weaker mid new (allowed dataset content.parts plan) either is_bitmap (bitmaps_over dataset content.parts plan) done
      (λ look t. or_second (is_text_in dir content look) (allowed dataset content.parts plan look) t) k)

-- ---- what is asked, where the files stand for a world

opening_is_text : (dir : List ℕ) (look : Look) (read : Result (Option Clause) QueryKind) → IsOkAnd read (λ clause. IsTextLook dir look) → IsTextLook dir look
opening_is_text dir look (Ok clause) is = is
opening_is_text dir look (Err kind) is = absurd is

texts_alone : (dir query : List ℕ) (old new : Option (List Look)) → AddsOnly (IsOpeningLook dir query) old new → AddsOnly (IsTextLook dir) old new
texts_alone dir query old new h =
    AddsOnly-weaken (IsOpeningLook dir query) (IsTextLook dir) old new (λ look is. opening_is_text dir look (read_clause query) is) h

module _ (allowed : Dataset → List Partition → Plan → Look → Bool) (dir query : List ℕ) where
  stopped_by : (m : Files) (world : World) (stands : Stands m world) (old new : Option (List Look)) (done : Type 0) → (done → ⊥)
      → AddsOnly (IsOpeningLook dir query) old new → AddsOnly (IsListedLook m dir) old new
      → (asked : Result (Option Clause) Status) (found : Option Content) → content_at world dir ≡ found → AddsAskedLooks allowed dir asked found old new done
  stopped_by m world stands old new done not_done h listed (Ok clause) (Some content) at =
      let dataset = dataset_in dir content in
      let plan = plan_of content.schema clause in
      adds_front old new (λ look. is_text_in dir content look || allowed dataset content.parts plan look) (is_bitmap_over dataset content.parts) []
      (bitmaps_over dataset content.parts plan) (Unit {0}) done not_done
      (texts_read m world dir stands content at (allowed dataset content.parts plan) old new listed)
  stopped_by m world stands old new done not_done h listed (Ok clause) None at = texts_alone dir query old new h
  stopped_by m world stands old new done not_done h listed (Err status) found at = texts_alone dir query old new h

  -- a question that is refused, or stopped before its plan is asked
  pub stopped_reads : (files : Option Files) (old new : Option (List Look)) (done : Type 0) → (done → ⊥) → AddsOnly (IsOpeningLook dir query) old new
      → IfSome files (λ m. AddsOnly (IsListedLook m dir) old new) → ReadsInWorld allowed dir query files old new done
  stopped_reads None old new done not_done h listed world stands = absurd stands
  stopped_reads (Some m) old new done not_done h listed world stands =
      stopped_by m world stands old new done not_done h listed (asked_of dir query (found_in world dir)) (content_at world dir) refl

  -- one whose plan is asked
  pub asked_reads : (files after : Option Files) (question : Question) (old mid new : Option (List Look)) (done more : Type 0) → (more → done) → IsPath dir → IsAsked dir query files question
      → after ≡ files → IfSome files (λ m. AddsOnly (IsListedLook m dir) old mid)
      → ((parts : List Partition) → AreParts after question.dataset parts
      → AddsLooks mid new (allowed question.dataset parts question.plan) (is_bitmap_over question.dataset parts) (bitmaps_over question.dataset parts question.plan) done)
      → ReadsInWorld allowed dir query files old new more
  asked_reads None after question old mid new done more is_done path is kept listed reads world stands = absurd stands
  asked_reads (Some m) after question old mid new done more is_done path is kept listed reads world stands =
      let there = asked_in_world m world dir stands path query question is in
      let content = there.content in
      let planned = is_plan_of content.schema is.clause question.plan there.planned in
      let looks = reads content.parts (subst (λ (f : Option Files). AreParts f question.dataset content.parts) (sym kept) there.parts) in
      let of_dataset = subst (λ (d : Dataset). AddsLooks mid new (allowed d content.parts question.plan) (is_bitmap_over d content.parts) (bitmaps_over d content.parts question.plan) done) there.same looks in
      let of_plan = subst (λ (p : Plan). AddsLooks mid new (allowed (dataset_in dir content) content.parts p) (is_bitmap_over (dataset_in dir content) content.parts) (bitmaps_over (dataset_in dir content) content.parts p) done) planned of_dataset in
      subst (λ (r : Result (Option Clause) Status). AddsAskedLooks allowed dir r (content_at world dir) old new more) (sym there.asked)
      (subst (λ (c : Option Content). AddsAskedLooks allowed dir (Ok is.clause) c old new more) (sym there.at)
      (plan_read m world dir stands content there.at allowed is.clause old mid new more listed
      (adds_done mid new (allowed (dataset_in dir content) content.parts (plan_of content.schema is.clause)) (is_bitmap_over (dataset_in dir content) content.parts)
      (bitmaps_over (dataset_in dir content) content.parts (plan_of content.schema is.clause)) done more is_done of_plan)))
