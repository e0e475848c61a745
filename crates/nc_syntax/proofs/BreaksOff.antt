-- A line that is refused breaks off at a place, with the code of its refusal.
use Rattle.std.proofs.Common.{◌≡◌, ℕ, ◌≤◌, length, sym, ◌∙◌, inl, inr, Option, Some, None, Result, Ok, Err, Bool, true, false, arith}
use Rattle.std.specs.Prelude.{◌⊎◌, IfErr}
use Rattle.std.proofs.lemmas.Bool.{cases_lt}
use Rattle.block_scanner.specs.Scanned.{IsScanned}
use Rattle.block_scanner.specs.WordsView.{WordsView}
use Rattle.word_tables.specs.Refused.{refused_word}
use Rattle.word_tables.specs.LargeNumbers.{has_large_number}
use Rattle.nc_expressions.specs.declared.faults.SyntaxFault.{SyntaxFault}
use Rattle.nc_expressions.specs.declared.faults.SyntaxFault.TheVariants as syntax
use Rattle.nc_blocks.specs.declared.blocks.Block.{Block}
use Rattle.nc_blocks.specs.Reading.{Gives}
use Rattle.nc_blocks.specs.Statement.{BlockView, view_of}
use Rattle.nc_syntax.specs.Blocks.{block_of, unless_refused, statement_of}
use Rattle.nc_syntax.specs.Spelled.{Spells, IsAccepted}
use Rattle.nc_syntax.specs.Forms.{Head, state_at}
use Rattle.nc_syntax.specs.Places.{MayGoOn, BreaksAt, BreaksOff}
use Rattle.nc_syntax.proofs.BlockLaws.{block_only, statement_found, statement_only}
use Rattle.nc_syntax.proofs.BlockRefusals.{refusals_listed}
use Rattle.nc_syntax.proofs.Breaking.{Refusal, refusal, no_further}
use Rattle.nc_syntax.proofs.Viable.{RoomHead}
use Rattle.nc_syntax.proofs.Reached.{Before, room_at}
use Rattle.nc_syntax.proofs.Completed.{goes_on}

-- at each place that is reached the line may go on
may_go_on : (words : WordsView) (at : ℕ) (h : Head) → IsScanned words → at ≤ length words.tokens → state_at words at ≡ Some h → RoomHead h ⊎ Before words at → MayGoOn words at
may_go_on words at h scanned l s (inl room) = inl (goes_on words at h scanned l s room)
may_go_on words at h scanned l s (inr b) =
    let next = b.next in
    inr (b.place, b.function, next, b.named, goes_on words b.place b.state scanned (omega (arith, l, next)) b.reached b.room)

none_spelled : (words : WordsView) (code : ℕ) → block_of words ≡ Err code → (block : BlockView) → ¬ (Spells words block)
none_spelled words code e block s =
    let both : ◌≡◌ {A = Result BlockView ℕ} (Err code) (Ok block) = sym e ∙ block_only words block s in cc

breaks_at : (words : WordsView) (code : ℕ) → IsScanned words → block_of words ≡ Err code → (r : Refusal words code) → BreaksAt words r.place
breaks_at words code scanned e r =
    let within = r.within in (
      may_go_on words r.place r.state scanned within r.comes (room_at words r.place r.state r.comes),
      elim (cases_lt r.place (length words.tokens)) [
        | inl l ↦ inl (l, no_further words r.place r.state code r.comes r.refused)
        | inr l ↦ inr (omega (arith, l, within), λ (block : BlockView) (s : Spells words block). none_spelled words code e block s)
      ],
    )

-- the refusal of the form
form_refused : (o : Option ℕ) (large : Bool) (r : Result BlockView ℕ) (code : ℕ) → o ≡ None → large ≡ false → unless_refused o large r ≡ Err code → r ≡ Err code
form_refused (Some c) large r code e f h = cc
form_refused None true r code e f h = cc
form_refused None false r code e f h = h

pub statement_breaks : (words : WordsView) (compensation : Bool) (r : Result Block SyntaxFault) → IsScanned words → Gives view_of (statement_of words compensation) r →
    IfErr r (BreaksOff words compensation)
unfolding statement_of
statement_breaks words compensation (Ok b) scanned h = tt
statement_breaks words compensation (Err syntax.NoMemory) scanned h = tt
statement_breaks words compensation (Err (syntax.Refused code)) scanned h =
    λ (a : IsAccepted words compensation).
    let e = form_refused (refused_word compensation words.line words.tokens) (has_large_number words.line words.tokens) (block_of words) code a.0 a.1 h in
    let r = refusal words code e in
    (r.place, breaks_at words code scanned e r, (r.state, r.comes, r.refused))

pub ruleset answers = (statement_found, statement_only, refusals_listed, statement_breaks)
