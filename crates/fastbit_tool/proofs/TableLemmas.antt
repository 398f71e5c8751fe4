-- How a table that is made ends: it is done, or printing failed, or memory ran out.
use Rattle.std.proofs.Common.{◌≡◌, ◌≢◌, inl, inr, ℕ, List, Option, refl, subst, arith}
use Rattle.fb_outside.specs.Causes.{HasCause}
use Rattle.fb_outside.specs.Files.{Files}
use Rattle.fb_outside.specs.Streams.{ForSomeInput}
use Rattle.world.specs.World.{World}
use Rattle.world.specs.Stands.{StandsFor}
use Rattle.statuses.specs.declared.Status.{Status}
use Rattle.statuses.specs.declared.Status.TheVariants.{Done, Usage, BadSchema, BadInput, SchemaDiffers, BadQuery, BadSpec, NoDataset, Damaged, Limit, ReadFault, StoreFault, SinkFault, OutOfMemory}
use Rattle.commands.specs.Causes.{HasCauseIn}
use Rattle.commands.specs.Effects.{LeavesAfter}
use Rattle.commands.specs.Reply.{Replies}
use Rattle.commands.proofs.PrintLemmas.{some_input, some_told}
use Rattle.gen_run.specs.Made.{gen_outcome}
use Rattle.gen_run.specs.Ran.{IsGenEnd}
use Rattle.fastbit_tool.specs.Requests.{AskedComesTo, AskedYields, OfTable, outcome}

not_so : (other status : Status) → IsGenEnd status → (IsGenEnd other → ⊥) → status ≢ other
not_so other status end never e = never (subst IsGenEnd e end)

pub table_yields : (rows seed : ℕ) (left : Option (List ℕ)) (status : Status) → IsGenEnd status → AskedYields (OfTable rows seed) left status
table_yields rows seed left status end = (not_so ReadFault status end (λ is. is), not_so StoreFault status end (λ is. is))

pub table_causes : (rows seed : ℕ) (left : Option (List ℕ)) (files : Option Files) (status : Status) → IsGenEnd status
    → HasCauseIn (AskedComesTo (OfTable rows seed) left files) status
table_causes rows seed left files Done end = inr (record { reply = gen_outcome rows seed; come = refl; is = refl })
table_causes rows seed left files SinkFault end = inl refl
table_causes rows seed left files OutOfMemory end = inl refl
table_causes rows seed left files Usage end = absurd end
table_causes rows seed left files (BadSchema column kind) end = absurd end
table_causes rows seed left files (BadInput number field kind) end = absurd end
table_causes rows seed left files (SchemaDiffers column) end = absurd end
table_causes rows seed left files (BadQuery kind) end = absurd end
table_causes rows seed left files (BadSpec kind) end = absurd end
table_causes rows seed left files (NoDataset file) end = absurd end
table_causes rows seed left files (Damaged file kind want have) end = absurd end
table_causes rows seed left files (Limit what number limit) end = absurd end
table_causes rows seed left files ReadFault end = absurd end
table_causes rows seed left files StoreFault end = absurd end

-- what isn't asked has no cause
unasked : (count : ℕ) (failed : Type 0) → (failed → ⊥) → HasCause count count failed
unasked count failed never = record { later = omega arith; rose = λ e. absurd (never e); told = λ other. refl }

pub table_unread : (count : ℕ) (status : Status) → IsGenEnd status → HasCause count count (status ≡ ReadFault)
table_unread count status end = unasked count (status ≡ ReadFault) (not_so ReadFault status end (λ is. is))

pub table_unstored : (count : ℕ) (status : Status) → IsGenEnd status → HasCause count count (status ≡ StoreFault)
table_unstored count status end = unasked count (status ≡ StoreFault) (not_so StoreFault status end (λ is. is))

-- its reply is the same for every input and in every world
pub table_replies : (rows seed : ℕ) (left : Option (List ℕ)) (files : Option Files) (status : Status) (old new : Option (List ℕ))
    → Replies (gen_outcome rows seed) status old new
    → ForSomeInput left (λ bytes. (w : World) → StandsFor files w → Replies (outcome (OfTable rows seed) bytes w) status old new)
table_replies rows seed left files status old new h = record { input = some_input left; told = some_told left; holds = λ w stands. h }

pub table_leaves : (rows seed : ℕ) (left : Option (List ℕ)) (files : Option Files) (status : Status)
    → ForSomeInput left (λ bytes. (w : World) → StandsFor files w → LeavesAfter (outcome (OfTable rows seed) bytes w).effects w status files)
table_leaves rows seed left files status = record {
  input = some_input left;
  told = some_told left;
  holds = λ w stands. record { count = 0; within = omega arith; stands = stands; all = λ e. refl; none = λ e. refl };
}
