-- From how the lines of a session ran to what they answer and do together.
use Rattle.std.proofs.Common.{◌≡◌, ◌≢◌, ◌⊎◌, inl, inr, ℕ, ◌+◌, Bool, true, false, List, [], ◌∷◌, ◌++◌, length, take, Option, Some, None, refl, sym, ap, subst, ◌∙◌, arith}
use Rattle.std.proofs.lemmas.List.{take-append-le, length-append}
use Rattle.std.proofs.Math.Seq.{take-append-add, take-length}
use Rattle.fb_outside.specs.Files.{ChangesAmong, Files, SameFiles}
use Rattle.fb_outside.specs.Streams.{Grows, GrowsInPart}
use Rattle.fb_outside.proofs.StreamLemmas.{Grows-append, Grows-nil, GrowsInPart-append, GrowsInPart-front}
use Rattle.fb_outside.proofs.FileLemmas.{ChangesAmong-same, ChangesAmong-trans, ChangesAmong-weaken}
use Rattle.world.specs.World.{World}
use Rattle.world.specs.Stands.{StandsFor}
use Rattle.world.specs.Effects.{Effect, after, after_one}
use Rattle.statuses.specs.declared.Status.{Status}
use Rattle.statuses.specs.declared.Status.TheVariants.{Done, ReadFault, OutOfMemory}
use Rattle.statuses.specs.Outcome.{Outcome}
use Rattle.commands.specs.Command.{Command}
use Rattle.commands.specs.Effects.{LeavesAfter}
use Rattle.commands.specs.Reply.{Replies, RepliesBy, is_fault}
use Rattle.commands.proofs.PrintLemmas.{Replies-fault, Replies-quiet}
use Rattle.fastbit_tool.specs.Session.{LineRunsBy, LinesRun, Outside, followed_by, line_command, line_outcome, lines_outcome, nothing, outcome_by}
use Rattle.fastbit_tool.specs.Requests.{IsOfLineBy, IsOfLines}

-- ---- replies

-- what a reply says with a fault, and what without one
pub in_part : (reply : Outcome) (status : Status) (before now : Option (List ℕ)) → is_fault status ≡ true
    → Replies reply status before now → GrowsInPart before now reply.text
in_part reply status before now fault h = subst (λ (b : Bool). RepliesBy b reply status before now) fault h

pub in_full : (reply : Outcome) (status : Status) (before now : Option (List ℕ)) → is_fault status ≡ false
    → Replies reply status before now → (status ≡ reply.status) × Grows before now reply.text
in_full reply status before now plain h = subst (λ (b : Bool). RepliesBy b reply status before now) plain h

pub Replies-full : (reply : Outcome) (status : Status) (before now : Option (List ℕ)) → is_fault status ≡ false
    → status ≡ reply.status → Grows before now reply.text → Replies reply status before now
Replies-full reply status before now plain is grows = subst (λ (b : Bool). RepliesBy b reply status before now) (sym plain) (is, grows)

-- nothing to do, and it is done
pub Replies-nothing : (before now : Option (List ℕ)) (status : Status) → now ≡ before → status ≡ Done → Replies nothing status before now
Replies-nothing before now status same is =
    Replies-full nothing status before now (ap is_fault is) is (same ∙ Grows-nil before)

-- the first one stopped
pub Replies-stopped : (first rest : Outcome) (status : Status) (before now : Option (List ℕ)) → is_fault status ≡ true
    → Replies first status before now → Replies (followed_by first rest) status before now
Replies-stopped first rest status before now fault h =
    Replies-fault (followed_by first rest) status before now fault (GrowsInPart-front before now first.text rest.text (in_part first status before now fault h))

-- the rest behind all of the first
behind_by : (first rest : Outcome) (status : Status) (before mid now : Option (List ℕ)) (b : Bool) → is_fault status ≡ b
    → Grows before mid first.text → rest.status ≡ Done → Replies rest status mid now → Replies (followed_by first rest) status before now
behind_by first rest status before mid now true fault grows done h =
    Replies-fault (followed_by first rest) status before now fault
    (GrowsInPart-append before mid now first.text rest.text grows (in_part rest status mid now fault h))
behind_by first rest status before mid now false plain grows done h =
    let full = in_full rest status mid now plain h in
    Replies-full (followed_by first rest) status before now plain (full.0 ∙ done) (Grows-append before mid now first.text rest.text grows full.1)

pub Replies-behind : (first rest : Outcome) (status : Status) (before mid now : Option (List ℕ))
    → Grows before mid first.text → rest.status ≡ Done → Replies rest status mid now → Replies (followed_by first rest) status before now
Replies-behind first rest status before mid now grows done h = behind_by first rest status before mid now (is_fault status) refl grows done h

-- ---- effects

after-append : (w : World) (es more : List Effect) → after w (es ++ more) ≡ after (after w es) more
after-append w [] more = refl
after-append w (e ∷ es) more = after-append (after_one w e) es more

pub leaves_nothing : (w : World) (status : Status) (old new : Option Files) → StandsFor old w → SameFiles old new → LeavesAfter [] w status new
leaves_nothing w status old new h same =
    record {
      count = 0;
      within = omega arith;
      stands = subst (λ (f : Option Files). StandsFor f w) (sym same) h;
      all = λ e. refl;
      none = λ e. refl;
    }

-- after all effects
pub stands_after : (es : List Effect) (w : World) (status : Status) (new : Option Files) → is_fault status ≡ false → LeavesAfter es w status new
    → StandsFor new (after w es)
stands_after es w status new plain h =
    let count : h.count ≡ length es = h.all plain in
    let whole : take h.count es ≡ es = ap (λ n. take n es) count ∙ take-length es in
    subst (λ (l : List Effect). StandsFor new (after w l)) whole h.stands

pub leaves_stopped : (es more : List Effect) (w : World) (status : Status) (new : Option Files) → is_fault status ≡ true → status ≢ ReadFault
    → LeavesAfter es w status new → LeavesAfter (es ++ more) w status new
leaves_stopped es more w status new fault unread h =
    let front : take h.count (es ++ more) ≡ take h.count es = take-append-le h.count es more h.within in
    record {
      count = h.count;
      within = omega (arith, h.within, length-append es more);
      stands = subst (λ (l : List Effect). StandsFor new (after w l)) (sym front) h.stands;
      all = λ e. let bad : true ≡ false = sym fault ∙ e in absurd (cc);
      none = λ e. absurd (unread e);
    }

pub leaves_behind : (es more : List Effect) (w : World) (status : Status) (new : Option Files) → status ≢ ReadFault
    → LeavesAfter more (after w es) status new → LeavesAfter (es ++ more) w status new
leaves_behind es more w status new unread h =
    let front : take (length es + h.count) (es ++ more) ≡ es ++ take h.count more = take-append-add es more h.count in
    let world : after w (take (length es + h.count) (es ++ more)) ≡ after (after w es) (take h.count more) =
    ap (after w) front ∙ after-append w es (take h.count more) in
    record {
      count = length es + h.count;
      within = omega (arith, h.within, length-append es more);
      stands = subst (λ (v : World). StandsFor new v) (sym world) h.stands;
      all = λ e. ap (λ n. length es + n) (h.all e) ∙ sym (length-append es more);
      none = λ e. absurd (unread e);
    }

-- ---- one line

skip_reply : (before now : Option (List ℕ)) (status : Status) → now ≡ before → (status ≡ Done) ⊎ (status ≡ OutOfMemory) → Replies nothing status before now
skip_reply before now status same (inl is) = Replies-nothing before now status same is
skip_reply before now status same (inr is) = Replies-quiet nothing status before now (ap is_fault is) same

skip_unread : (status : Status) → (status ≡ Done) ⊎ (status ≡ OutOfMemory) → status ≢ ReadFault
skip_unread status (inl is) e = let bad : Done ≡ ReadFault = sym is ∙ e in cc
skip_unread status (inr is) e = let bad : OutOfMemory ≡ ReadFault = sym is ∙ e in cc

pub same_files : (old new : Outside) → new ≡ old → SameFiles old.files new.files
same_files old new same = ap (λ (o : Outside). o.files) same

pub same_written : (old new : Outside) → new ≡ old → new.written ≡ old.written
same_written old new same = ap (λ (o : Outside). o.written) same

module _ (left : Option (List ℕ)) (old new : Outside) (status : Status) where
  replies_by : (command : Option Command) → LineRunsBy command left old new status → (w : World) → StandsFor old.files w
      → Replies (outcome_by command w) status old.written new.written
  replies_by None h w stands = skip_reply old.written new.written status (same_written old new h.same) h.ends
  replies_by (Some command) h w stands = h.replies w stands

  leaves_by : (command : Option Command) → LineRunsBy command left old new status → (w : World) → StandsFor old.files w
      → LeavesAfter (outcome_by command w).effects w status new.files
  leaves_by None h w stands = leaves_nothing w status old.files new.files stands (same_files old new h.same)
  leaves_by (Some command) h w stands = h.leaves w stands

  keeps_by : (command : Option Command) → LineRunsBy command left old new status → ChangesAmong (IsOfLineBy command) old.files new.files
  keeps_by None h = ChangesAmong-same old.files new.files (same_files old new h.same)
  keeps_by (Some command) h = h.kept

  unread_by : (command : Option Command) → LineRunsBy command left old new status → status ≢ ReadFault
  unread_by None h = skip_unread status h.ends
  unread_by (Some command) h = h.unread

-- ---- all lines

lines_done : (lines : List (List ℕ)) (w : World) → (lines_outcome lines w).status ≡ Done
lines_done [] w = refl
lines_done (line ∷ lines) w = refl

pub lines_reply : (lines : List (List ℕ)) (left : Option (List ℕ)) (old new : Outside) (status : Status)
    → LinesRun lines left old new status → (w : World) → StandsFor old.files w → Replies (lines_outcome lines w) status old.written new.written
lines_reply [] left old new status h w stands = Replies-nothing old.written new.written status (same_written old new h.0) h.1
lines_reply (line ∷ lines) left old new status (inl stops) w stands =
    Replies-stopped (line_outcome line w) (lines_outcome lines (after w (line_outcome line w).effects)) status old.written new.written stops.fault
    (replies_by left old new status (line_command line) stops.runs w stands)
lines_reply (line ∷ lines) left old new status (inr goes) w stands =
    let full = in_full (line_outcome line w) goes.status old.written goes.between.written goes.fine
    (replies_by left old goes.between goes.status (line_command line) goes.runs w stands) in
    let leaves = leaves_by left old goes.between goes.status (line_command line) goes.runs w stands in
    let there = stands_after (line_outcome line w).effects w goes.status goes.between.files goes.fine leaves in
    Replies-behind (line_outcome line w) (lines_outcome lines (after w (line_outcome line w).effects)) status old.written goes.between.written new.written
    full.1 (lines_done lines (after w (line_outcome line w).effects))
    (lines_reply lines left goes.between new status goes.rest (after w (line_outcome line w).effects) there)

pub lines_unread : (lines : List (List ℕ)) (left : Option (List ℕ)) (old new : Outside) (status : Status) → LinesRun lines left old new status → status ≢ ReadFault
lines_unread [] left old new status h e = let bad : Done ≡ ReadFault = sym h.1 ∙ e in cc
lines_unread (line ∷ lines) left old new status (inl stops) e = unread_by left old new status (line_command line) stops.runs e
lines_unread (line ∷ lines) left old new status (inr goes) e = lines_unread lines left goes.between new status goes.rest e

pub lines_leave : (lines : List (List ℕ)) (left : Option (List ℕ)) (old new : Outside) (status : Status)
    → LinesRun lines left old new status → (w : World) → StandsFor old.files w → LeavesAfter (lines_outcome lines w).effects w status new.files
lines_leave [] left old new status h w stands = leaves_nothing w status old.files new.files stands (same_files old new h.0)
lines_leave (line ∷ lines) left old new status (inl stops) w stands =
    leaves_stopped (line_outcome line w).effects (lines_outcome lines (after w (line_outcome line w).effects)).effects w status new.files stops.fault
    (unread_by left old new status (line_command line) stops.runs)
    (leaves_by left old new status (line_command line) stops.runs w stands)
lines_leave (line ∷ lines) left old new status (inr goes) w stands =
    let leaves = leaves_by left old goes.between goes.status (line_command line) goes.runs w stands in
    let there = stands_after (line_outcome line w).effects w goes.status goes.between.files goes.fine leaves in
    leaves_behind (line_outcome line w).effects (lines_outcome lines (after w (line_outcome line w).effects)).effects w status new.files
    (lines_unread lines left goes.between new status goes.rest)
    (lines_leave lines left goes.between new status goes.rest (after w (line_outcome line w).effects) there)

pub lines_keep : (lines : List (List ℕ)) (left : Option (List ℕ)) (old new : Outside) (status : Status)
    → LinesRun lines left old new status → ChangesAmong (IsOfLines lines) old.files new.files
lines_keep [] left old new status h = ChangesAmong-same old.files new.files (same_files old new h.0)
lines_keep (line ∷ lines) left old new status (inl stops) =
    ChangesAmong-weaken old.files new.files (λ q of. inl of) (keeps_by left old new status (line_command line) stops.runs)
lines_keep (line ∷ lines) left old new status (inr goes) =
    ChangesAmong-trans old.files goes.between.files new.files
    (ChangesAmong-weaken old.files goes.between.files (λ q of. inl of) (keeps_by left old goes.between goes.status (line_command line) goes.runs))
    (ChangesAmong-weaken goes.between.files new.files (λ q of. inr of) (lines_keep lines left goes.between new status goes.rest))

-- lines that ran without a fault are done
pub lines_end : (lines : List (List ℕ)) (left : Option (List ℕ)) (old new : Outside) (status : Status)
    → LinesRun lines left old new status → is_fault status ≡ false → status ≡ Done
lines_end [] left old new status h plain = h.1
lines_end (line ∷ lines) left old new status (inl stops) plain = let bad : true ≡ false = sym stops.fault ∙ plain in absurd (cc)
lines_end (line ∷ lines) left old new status (inr goes) plain = lines_end lines left goes.between new status goes.rest plain
