use Rattle.coord_core.specs.Boards.{BoardView}
use Rattle.coord_core.specs.declared.locked.Locked.{Locked}
use Rattle.std.proofs.Common.{List, None, Option, Some, ap, append_assoc, arith, length, rules, subst, sym, ◌≡◌, [], ◌∷◌, ◌++◌, ◌∙◌}
use Rattle.std.proofs.lemmas.Option.{none-some}
use Rattle.ticket_board.proofs.Cuts.{sits}
use Rattle.ticket_board.proofs.Passes.{every_mid, every_of_all, finished}
use Rattle.ticket_board.specs.Passes.{HasOneHistory, IsPassOf, TicketBoardView, TicketPassView, channels_of}
use Rattle.ticket_board.specs.Rule.{Every}
use Rattle.ticket_board.proofs.board.TicketBoard.finish.Goals as goal

abbrev or_else : Locked → Option Locked → Locked
or_else l None = l
or_else l (Some x) = x

some_same : (a b : Locked) → Some a ≡ Some b → a ≡ b
some_same a b e = ap (or_else a) e

pub load_new_seat-all-requires : goal.load_new_seat-all-requires
load_new_seat-all-requires c = let s = c.self.invariant.0 in (omega (arith, s), sits _ _ _)

pub give_up-requires-clause-table : goal.give_up-requires-clause-table
give_up-requires-clause-table c = let i = c.loop-pass.invariant in let done : List TicketPassView = i.3.0 in let left = c.pop.new.self.items in let p : TicketPassView = c.in-Some.pass in
    let are : c.args.passes.items ≡ left ++ p ∷ done = i.3.1 ∙ (ap (λ (ps : List TicketPassView). ps ++ done) c.in-Some.ensures.items ∙ append_assoc left (p ∷ []) done) in
    let own = every_mid (IsPassOf c.args.self) left done p (subst (Every (IsPassOf c.args.self)) are (every_of_all (IsPassOf c.args.self) c.args.passes.items c.requires.own)) in
    (own.0 ∙ sym (ap (λ (v : TicketBoardView). v.table_id) c.self.view_is), i.0, c.self.invariant.0)

pub unreachable-requires : goal.unreachable-requires
unreachable-requires c = let i = c.loop-pass.invariant in let left = c.loop-pass.passes.items in let none_left : length left ≡ 0 = search rules in
    let all = c.requires.all ∙ sym (ap (λ (v : TicketBoardView). length (channels_of v.start)) c.self.view_is) in
    let f = finished c.self.inside.table.shared.key c.loop-pass.all.id c.loop-pass.all.me.0 _ _ c.args.passes.items left i.3.0 c.take-slot.result i.2 i.3.2 i.3.1 none_left all c.close_with-closed.ensures.values.2 c.take-slot.ensures.value in
    none-some f.locked (sym c.in-None.is ∙ f.slot_is)

pub returns : goal.returns
returns c = let i = c.loop-pass.invariant in let left = c.loop-pass.passes.items in let none_left : length left ≡ 0 = search rules in
    let all = c.requires.all ∙ sym (ap (λ (v : TicketBoardView). length (channels_of v.start)) c.self.view_is) in
    let f = finished c.self.inside.table.shared.key c.loop-pass.all.id c.loop-pass.all.me.0 _ _ c.args.passes.items left i.3.0 c.take-slot.result i.2 i.3.2 i.3.1 none_left all c.close_with-closed.ensures.values.2 c.take-slot.ensures.value in
    let same : f.locked ≡ c.in-Some-slot.held = some_same f.locked c.in-Some-slot.held (sym f.slot_is ∙ c.in-Some-slot.is) in
    let board : f.locked.board ≡ c.into_board.result = ap (λ (l : Locked). l.board) same ∙ sym c.into_board.ensures.board in record {
      start = subst (λ (b : BoardView). b.start ≡ c.args.self.start) board (f.start_is ∙ ap (λ (v : TicketBoardView). v.start) c.self.view_is);
      lawful = c.into_board.ensures.lawful;
      history = subst (λ (b : BoardView). HasOneHistory c.args.passes.items b) board f.history;
    }
