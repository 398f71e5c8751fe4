-- A command whose three objects didn't fail ended as its reply says, but for want of memory.
use Rattle.std.proofs.Common.{◌≡◌, ◌≢◌, inl, inr, ℕ, Bool, true, false, List, Option, refl}
use Rattle.fb_outside.specs.Causes.{HasCause, Rose}
use Rattle.fb_outside.specs.Files.{Files}
use Rattle.fb_outside.specs.Streams.{ForSomeInput, Grows}
use Rattle.world.specs.World.{World}
use Rattle.world.specs.Stands.{StandsFor}
use Rattle.statuses.specs.declared.Status.{Status}
use Rattle.statuses.specs.declared.Status.TheVariants.{Done, Usage, BadSchema, BadInput, SchemaDiffers, BadQuery, BadSpec, NoDataset, Damaged, Limit, ReadFault, StoreFault, SinkFault, OutOfMemory}
use Rattle.statuses.specs.Outcome.{Outcome}
use Rattle.commands.specs.Reply.{Replies, is_fault}
use Rattle.commands.proofs.PrintLemmas.{some_input, some_told}
use Rattle.fastbit_tool.specs.Completes.{Completes}

completes_by : (reply : Outcome) (status : Status) (old new : Option (List ℕ)) → (b : Bool) → is_fault status ≡ b → Replies reply status old new
    → (b ≡ true → status ≡ OutOfMemory) → Completes reply status
completes_by reply status old new false plain h none =
    let said : (status ≡ reply.status) × Grows old new reply.text = rw plain at h in inl said.0
completes_by reply status old new true fault h none = inr (none refl)

only_memory : (status : Status) → status ≢ ReadFault → status ≢ StoreFault → status ≢ SinkFault → is_fault status ≡ true → status ≡ OutOfMemory
only_memory ReadFault r s k e = absurd (r refl)
only_memory StoreFault r s k e = absurd (s refl)
only_memory SinkFault r s k e = absurd (k refl)
only_memory OutOfMemory r s k e = refl
only_memory Done r s k e = absurd (cc)
only_memory Usage r s k e = absurd (cc)
only_memory (BadSchema column kind) r s k e = absurd (cc)
only_memory (BadInput number field kind) r s k e = absurd (cc)
only_memory (SchemaDiffers column) r s k e = absurd (cc)
only_memory (BadQuery kind) r s k e = absurd (cc)
only_memory (BadSpec kind) r s k e = absurd (cc)
only_memory (NoDataset file) r s k e = absurd (cc)
only_memory (Damaged file kind want have) r s k e = absurd (cc)
only_memory (Limit what number limit) r s k e = absurd (cc)

completes : (reply : Outcome) (status : Status) (old new : Option (List ℕ)) (i i' s s' k k' : ℕ) → Replies reply status old new
    → HasCause i i' (status ≡ ReadFault) → HasCause s s' (status ≡ StoreFault) → HasCause k k' (status ≡ SinkFault)
    → (Rose i i' → ⊥) → (Rose s s' → ⊥) → (Rose k k' → ⊥) → Completes reply status
completes reply status old new i i' s s' k k' h read stored printed no_read no_store no_print =
    completes_by reply status old new (is_fault status) refl h
    (only_memory status (λ e. no_read (read.rose e)) (λ e. no_store (stored.rose e)) (λ e. no_print (printed.rose e)))

pub call_completes : (of : List ℕ → World → Outcome) (status : Status) (left : Option (List ℕ)) (files : Option Files) (old new : Option (List ℕ)) (i i' s s' k k' : ℕ)
    → ForSomeInput left (λ bytes. (w : World) → StandsFor files w → Replies (of bytes w) status old new)
    → HasCause i i' (status ≡ ReadFault) → HasCause s s' (status ≡ StoreFault) → HasCause k k' (status ≡ SinkFault)
    → ForSomeInput left (λ bytes. (w : World) → StandsFor files w → (Rose i i' → ⊥) → (Rose s s' → ⊥) → (Rose k k' → ⊥) → Completes (of bytes w) status)
call_completes of status left files old new i i' s s' k k' h read stored printed =
    record {
      input = h.input;
      told = h.told;
      holds = λ w stands no_read no_store no_print.
          completes (of h.input w) status old new i i' s s' k k' (h.holds w stands) read stored printed no_read no_store no_print;
    }

-- memory ran out
pub memory_completes : (of : List ℕ → World → Outcome) (left : Option (List ℕ)) (files : Option Files) (i s k : ℕ)
    → ForSomeInput left (λ bytes. (w : World) → StandsFor files w → (Rose i i → ⊥) → (Rose s s → ⊥) → (Rose k k → ⊥) → Completes (of bytes w) OutOfMemory)
memory_completes of left files i s k =
    record { input = some_input left; told = some_told left; holds = λ w stands no_read no_store no_print. inr refl }
