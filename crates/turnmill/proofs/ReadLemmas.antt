-- An input that was read piece after piece.
use Rattle.std.proofs.Common.{◌≡◌, ◌∙◌, ℕ, ◌+◌, ◌<◌, ◌≤◌, List, [], ◌++◌, length, take, Option, None, Some, Result, Ok, Err, IfOk, IfErr, refl, ap, sym, subst, arith, length-append, append_assoc}
use Rattle.std.proofs.lemmas.List.{append-nil, length-take-le}
use Rattle.edge_io.specs.Moves.{Loses, IsEmptied}
use Rattle.exit_statuses.specs.declared.Status.{Status}
use Rattle.job_types.specs.Job.{JobView}
use Rattle.job_types.specs.SoundJob.{IsSoundJob}
use Rattle.fault_codes.specs.declared.Refusal.{Refusal}
use Rattle.tape_job.proofs.SoundJobs.{read_sound}
use Rattle.tape_job.specs.Input.{ReaderView, HasTaken}
use Rattle.tape_job.specs.Read.{read_of}
use Rattle.turnmill.proofs.CheckLemmas.{front-short, writes-short}
use Rattle.job_types.specs.declared.job.Job.{Job}
use Rattle.turnmill.specs.Input.{ReadsAll, ReadsJob, IsReadFrom}
use Rattle.turnmill.specs.declared.check.InputFault.{InputFault}
use Rattle.turnmill.specs.declared.check.InputFault.TheVariants.{NoMemory}
use Rattle.turnmill.specs.Output.{InputCallsFor, ReadingCallsFor, IsReadWhole, Writes, WritesFront}

-- two losses, one after the other
loses_more : (old mid new : Option (List ℕ)) (first more : List ℕ) → Loses old mid first → Loses mid new more → Loses old new (first ++ more)
loses_more None mid new first more lost lost_more = tt
loses_more (Some xs) None new first more lost lost_more = absurd lost
loses_more (Some xs) (Some ys) None first more lost lost_more = absurd lost_more
loses_more (Some xs) (Some ys) (Some zs) first more lost lost_more = lost ∙ ap (λ l. first ++ l) lost_more ∙ sym (append_assoc first more zs)

-- the bytes that the source lost were given to the reader
pub record GivesAll (reader : ReaderView) (number : ℕ) (old new : Option (List ℕ)) : Type 0 where
  pub bytes : List ℕ
  pub taken : HasTaken reader bytes
  pub lost : Loses old new bytes
  pub is : length bytes ≡ number

pub nothing_given : (reader : ReaderView) (left : Option (List ℕ)) → HasTaken reader [] → GivesAll reader 0 left left
nothing_given reader None taken = record { bytes = []; taken = taken; lost = tt; is = refl }
nothing_given reader (Some xs) taken = record { bytes = []; taken = taken; lost = refl; is = refl }

-- one piece more
pub more_given : (reader next : ReaderView) (number n : ℕ) (old mid new : Option (List ℕ)) (buffer : List ℕ) → GivesAll reader number old mid → n ≤ length buffer
    → Loses mid new (take n buffer) → ((bytes : List ℕ) → HasTaken reader bytes → HasTaken next (bytes ++ take n buffer)) → GivesAll next (number + n) old new
more_given reader next number n old mid new buffer given within lost takes =
    let long = length-append given.bytes (take n buffer) in
    let few = length-take-le n buffer within in
    record {
      bytes = given.bytes ++ take n buffer;
      taken = takes given.bytes given.taken;
      lost = loses_more old mid new given.bytes (take n buffer) given.lost lost;
      is = let same = given.is in omega (arith, long, few, same);
    }

-- the source is at its end
read_all : (old mid new : Option (List ℕ)) (bytes : List ℕ) → Loses old mid bytes → IsEmptied mid → Loses mid new [] → ReadsAll old new bytes
read_all None mid new bytes lost empty still = tt
read_all (Some xs) None new bytes lost empty still = absurd lost
read_all (Some xs) (Some ys) None bytes lost empty still = absurd still
read_all (Some xs) (Some ys) (Some zs) bytes lost empty still = (lost ∙ ap (λ l. bytes ++ l) empty ∙ append-nil bytes, ap Some (sym still ∙ empty))

pub read_from : (reader : ReaderView) (number : ℕ) (read : Result JobView Refusal) (old mid new : Option (List ℕ)) (buffer : List ℕ) → GivesAll reader number old mid → number < 8388609
    → IsEmptied mid → Loses mid new (take 0 buffer) → ((bytes : List ℕ) → HasTaken reader bytes → read_of bytes ≡ read) → IsReadFrom read old new
read_from reader number read old mid new buffer given few empty still is =
    record { bytes = given.bytes; all = read_all old mid new given.bytes given.lost empty still; short = let same = given.is in omega (arith, same, few); is = is given.bytes given.taken }

-- what comes of a source at its end: the job or the refusal of all its bytes, or memory is wanted
pub reads_job : (result : Result (Result Job Refusal) InputFault) (reader : ReaderView) (number : ℕ) (old mid new : Option (List ℕ)) (buffer : List ℕ) (before now : ℕ) → now ≡ before
    → GivesAll reader number old mid → number < 8388609 → IsEmptied mid → Loses mid new (take 0 buffer)
    → ((bytes : List ℕ) → HasTaken reader bytes → IfOk result (λ read. read_of bytes ≡ read)) → IfErr result (λ fault. fault ≡ NoMemory) → ReadsJob result old new before now
reads_job (Ok read) reader number old mid new buffer before now same given few empty still exact memory = (same, read_from reader number read old mid new buffer given few empty still exact)
reads_job (Err fault) reader number old mid new buffer before now same given few empty still exact memory =
    subst (λ (f : InputFault). ReadsJob (Err f) old new before now) (sym memory) same

-- what is written of an input as it was read is what it calls for
pub read_writes : (read : Result JobView Refusal) (left after old new : Option (List ℕ)) (status : Status) (from : IsReadFrom read left after)
    → (IsReadWhole status → Writes (ReadingCallsFor read) status old new) → IsReadWhole status → Writes (InputCallsFor from.bytes) status old new
read_writes read left after old new status from writes whole = writes-short from.bytes read status old new from.short from.is (writes whole)

pub read_front : (read : Result JobView Refusal) (left after old new : Option (List ℕ)) (from : IsReadFrom read left after)
    → WritesFront (ReadingCallsFor read) old new → WritesFront (InputCallsFor from.bytes) old new
read_front read left after old new from writes = front-short from.bytes read old new from.short from.is writes

-- a job that an input is, is sound
pub read_is_sound : (read : Result JobView Refusal) (left after : Option (List ℕ)) → IsReadFrom read left after → IfOk read IsSoundJob
read_is_sound read left after from = subst (λ r. IfOk r IsSoundJob) from.is (read_sound from.bytes)
