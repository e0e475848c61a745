-- Looks in turn, and what is told of a closed board.
use Rattle.coord_core.proofs.Outcomes.{at_closed, tells_what_is}
use Rattle.coord_core.proofs.Running.{sees_itself, sees_on}
use Rattle.coord_core.specs.BoardTurns.{Brings, ToAct, ToClosed, ToLook, ToNoMemory}
use Rattle.coord_core.specs.Desks.{Acts, Looks, SeesOn, Told}
use Rattle.coord_core.specs.Histories.{History}
use Rattle.coord_core.specs.declared.outcome.Outcome.{Outcome}
use Rattle.coord_core.specs.declared.outcome.Outcome.TheVariants.{Closed, NoMemory}
use Rattle.std.proofs.Common.{Bool, None, Option, Some, ap, false, inl, inr, refl, subst, sym, true, ℕ, ◌≡◌, ◌⊎◌, ◌||◌, ◌∙◌}
use Rattle.std.proofs.lemmas.Option.{none-some}
use Rattle.sync_types.proofs.BoardTests.{no_truth}
use Rattle.sync_types.specs.Views.{StartView}
use Rattle.sync_types.specs.declared.Step.{Step}
use Rattle.ticket_board.proofs.Turning.{or_false}
use Rattle.ticket_board.specs.Passes.{AnEntry, Makes, NoEntry, TellsClosing, TicketPassView, is_no_memory, told_of}
use Rattle.ticket_board.specs.Turns.{wants_memory}

-- looks that had no answer
pub record LooksOn (before after : Told) : Type 0 where
  pub channel : after.channel ≡ before.channel
  pub start : after.start ≡ before.start
  pub seen : SeesOn before.channel before.seen after.seen

pub looks_refl : (p : Told) → LooksOn p p
looks_refl p = record { channel = refl; start = refl; seen = sees_itself p.channel p.seen }

sees_then : (p q r : Told) → q.channel ≡ p.channel → SeesOn p.channel p.seen q.seen → SeesOn q.channel q.seen r.seen → SeesOn p.channel p.seen r.seen
sees_then p q r same x y = sees_on p.channel p.seen q.seen r.seen x (subst (λ (c : ℕ). SeesOn c q.seen r.seen) same y)

pub looks_then : (p q r : Told) (a : Option Outcome) → LooksOn p q → Looks q a r → Looks p a r
looks_then p q r a x y = record {
  pass = record { channel = y.pass.channel ∙ x.channel; start = y.pass.start ∙ x.start; lawful = y.pass.lawful };
  seen = sees_then p q r x.channel x.seen y.seen;
  told = y.told;
}

pub looks_trans : (p q r : Told) (a : Option Outcome) → LooksOn p q → Looks q a r → LooksOn p r
looks_trans p q r a x y = record { channel = y.pass.channel ∙ x.channel; start = y.pass.start ∙ x.start; seen = sees_then p q r x.channel x.seen y.seen }

-- ---- a closed board

abbrev some_one : Outcome → Option Outcome → Outcome
some_one a None = a
some_one a (Some b) = b

pub same_one : (a b : Outcome) → Some a ≡ Some b → a ≡ b
same_one a b e = ap (some_one a) e

pub look_closing : (p q : TicketPassView) (a : Outcome) → Looks (told_of p) (Some a) (told_of q) → q.shut ≡ p.shut → TellsClosing p a q
look_closing p q a looks shut =
    let is_told : q.seen.closed ≡ true → a ≡ Closed = λ on. same_one a Closed (looks.told ∙ at_closed q.start q.seen q.channel on) in record {
      stays = λ on. let same : q.seen ≡ p.seen = looks.seen.closed on in (is_told (ap (λ (h : History). h.closed) same ∙ on), same);
      closed = (λ is. ((tells_what_is q.start q.seen q.channel).closed (sym looks.told ∙ ap (λ (o : Outcome). Some o) is), shut), λ at. is_told at.0);
      told = λ on. inl (is_told on);
    }

-- what was brought to a closed board is dropped
brought_closed : (start : StartView) (c : ℕ) (step : Step) (h after : History) (a : Option Outcome) → h.closed ≡ true → Brings start c step h a after → (a ≡ Some Closed) × (after ≡ h)
brought_closed start c step h after a on (ToClosed closed same said) = (said, same)
brought_closed start c step h after a on (ToLook off same said) = (said ∙ at_closed start after c (ap (λ (x : History). x.closed) same ∙ on), same)
brought_closed start c step h after a on (ToAct closed ran made said) = no_truth h.closed on closed
brought_closed start c step h after a on (ToNoMemory closed ran made said) = no_truth h.closed on closed

-- Closed is told of a closed board
brought_only : (start : StartView) (c : ℕ) (step : Step) (h after : History) (a : Option Outcome) → a ≡ Some Closed → Brings start c step h a after → after.closed ≡ true
brought_only start c step h after a is (ToClosed closed same said) = ap (λ (x : History). x.closed) same ∙ closed
brought_only start c step h after a is (ToLook off same said) = (tells_what_is start after c).closed (sym said ∙ is)
brought_only start c step h after a is (ToAct closed ran made said) = (tells_what_is start after c).closed (sym said ∙ is)
brought_only start c step h after a is (ToNoMemory closed ran made said) = ap (λ (x : History). x.closed) made

brought_told : (start : StartView) (c : ℕ) (step : Step) (h after : History) (a : Option Outcome) → after.closed ≡ true → Brings start c step h a after → (a ≡ Some Closed) ⊎ (a ≡ Some NoMemory)
brought_told start c step h after a on (ToClosed closed same said) = inl said
brought_told start c step h after a on (ToLook off same said) = inl (said ∙ at_closed start after c on)
brought_told start c step h after a on (ToAct closed ran made said) = inl (said ∙ at_closed start after c on)
brought_told start c step h after a on (ToNoMemory closed ran made said) = inr said

act_stays : (p q : Told) (step : Step) (a : Option Outcome) → Acts p step a q → p.seen.closed ≡ true → (a ≡ Some Closed) × (q.seen ≡ p.seen)
act_stays p q step a acts on = let same : acts.found ≡ p.seen = acts.seen.closed on in
    let b = brought_closed p.start p.channel step acts.found q.seen a (ap (λ (h : History). h.closed) same ∙ on) acts.brought in (b.0, b.1 ∙ same)

either_one : (a : Outcome) → (Some a ≡ Some Closed) ⊎ (Some a ≡ Some NoMemory) → (a ≡ Closed) ⊎ (a ≡ NoMemory)
either_one a (inl e) = inl (same_one a Closed e)
either_one a (inr e) = inr (same_one a NoMemory e)

or_true : (b : Bool) → (b || true) ≡ true
or_true true = refl
or_true false = refl

-- where the mark was put for want of memory, the pass had not put it
closed_by_another : (p q : TicketPassView) (step : Step) (a : Outcome) → Acts (told_of p) step (Some a) (told_of q) → (p.shut ≡ true → p.seen.closed ≡ true) → q.shut ≡ (p.shut || is_no_memory a)
    → q.shut ≡ p.shut → (a ≡ Closed) ⊎ (a ≡ NoMemory) → a ≡ Closed
closed_by_another p q step a acts seen shut same (inl is) = is
closed_by_another p q step a acts seen shut same (inr is) =
    let on : p.shut ≡ true = sym same ∙ (shut ∙ (ap (λ (o : Outcome). p.shut || is_no_memory o) is ∙ or_true p.shut)) in
    same_one a Closed (act_stays (told_of p) (told_of q) step (Some a) acts (seen on)).0

-- a step that is answered at once
pub act_closing : (p q : TicketPassView) (step : Step) (a : Outcome) → Acts (told_of p) step (Some a) (told_of q) → (p.shut ≡ true → p.seen.closed ≡ true) → q.shut ≡ (p.shut || is_no_memory a) → TellsClosing p a q
act_closing p q step a acts seen shut =
    let is_told : q.seen.closed ≡ true → (a ≡ Closed) ⊎ (a ≡ NoMemory) = λ on. either_one a (brought_told p.start p.channel step acts.found q.seen (Some a) on acts.brought) in record {
      stays = λ on. let b = act_stays (told_of p) (told_of q) step (Some a) acts on in (same_one a Closed b.0, b.1);
      closed = (
        λ is. (brought_only p.start p.channel step acts.found q.seen (Some a) (ap (λ (o : Outcome). Some o) is) acts.brought, shut ∙ (ap (λ (o : Outcome). p.shut || is_no_memory o) is ∙ or_false p.shut)),
        λ at. closed_by_another p q step a acts seen shut at.1 (is_told at.0),
      );
      told = is_told;
    }

-- a step that had no answer, and a look that had one
pub wait_closing : (p q r : TicketPassView) (step : Step) (a : Outcome) → Acts (told_of p) step None (told_of q) → q.shut ≡ (p.shut || wants_memory None) → Looks (told_of q) (Some a) (told_of r) → r.shut ≡ q.shut
    → TellsClosing p a r
wait_closing p q r step a acts put looks shut = let later = look_closing q r a looks shut in let same : q.shut ≡ p.shut = put ∙ or_false p.shut in record {
  stays = λ on. let b = act_stays (told_of p) (told_of q) step None acts on in absurd (none-some Closed b.0);
  closed = (λ is. ((later.closed.0 is).0, shut ∙ same), λ at. later.closed.1 (at.0, at.1 ∙ sym same));
  told = later.told;
}

-- a turn that had no answer has made its entry
pub makes_then : (p q r : TicketPassView) (step : Step) (a : Outcome) → Makes p step None q → r.mine ≡ q.mine → Makes p step (Some a) r
makes_then p q r step a (AnEntry entry is made) same = AnEntry entry is (same ∙ made)
makes_then p q r step a (NoEntry kept (inl told)) same = absurd (none-some Closed told)
makes_then p q r step a (NoEntry kept (inr told)) same = absurd (none-some NoMemory told)
