-- What comes of a reader that has stopped.
use Rattle.std.proofs.Common.{◌≡◌, ◌∙◌, List, [], ◌++◌, ℕ, Result, Ok, Err, refl, sym, ap, subst, append-nil, append_assoc}
use Rattle.tape_job.specs.declared.fault.JobFault.{JobFault}
use Rattle.tape_job.specs.declared.fault.JobFault.TheVariants.{Refused, NoMemory}
use Rattle.tape_job.specs.declared.piece_reader.PieceReader.{PieceReader}
use Rattle.tape_job.specs.Input.{ReaderView, LeadsOn, HasTaken, GoesOn}
use Rattle.tape_job.specs.Read.{read_of, GivesRead}

pub gives_fault : (reader : ReaderView) (fault : JobFault) (bytes : List ℕ) → reader.progress ≡ Err fault → HasTaken reader bytes → GivesRead (Err fault) (read_of bytes)
gives_fault reader (Refused refused) bytes is taken =
    let leads : LeadsOn (Err (Refused refused)) bytes = subst (λ p. LeadsOn p bytes) is taken.leads in
    ap read_of (sym (append-nil bytes)) ∙ leads []
gives_fault reader NoMemory bytes is taken = tt

same_fault : (old fault : JobFault) (result : Result (Unit {0}) JobFault) → result ≡ Err fault → result ≡ Err old → fault ≡ old
same_fault old fault result is was = let same : Err fault ≡ Err old = sym is ∙ was in cc

-- a reader that has stopped stays so, whatever piece comes
stays_stopped : (fault : JobFault) (bytes piece : List ℕ) → LeadsOn (Err fault) bytes → LeadsOn (Err fault) (bytes ++ piece)
stays_stopped (Refused refused) bytes piece leads = λ more. ap read_of (append_assoc bytes piece more) ∙ leads (piece ++ more)
stays_stopped NoMemory bytes piece leads = tt

-- a reader that stops in a piece, or had stopped before it, tells of all bytes up to the end of the piece
pub stops_in : (old new : Result PieceReader JobFault) (fault : JobFault) (bytes piece : List ℕ) → GoesOn old piece (Err fault) new → LeadsOn old bytes
    → LeadsOn (Err fault) (bytes ++ piece)
stops_in (Ok pieces) (Ok after) (Refused refused) bytes piece takes leads = λ more. ap read_of (append_assoc bytes piece more) ∙ sym (leads (piece ++ more)) ∙ takes more
stops_in (Ok pieces) (Ok after) NoMemory bytes piece takes leads = tt
stops_in (Ok pieces) (Err stopped) fault bytes piece takes leads = absurd takes
stops_in (Err stopped) new fault bytes piece takes leads =
    let same : fault ≡ stopped = same_fault stopped fault (Err fault) refl takes in
    subst (λ (f : JobFault). LeadsOn (Err f) (bytes ++ piece)) (sym same) (stays_stopped stopped bytes piece leads)
