use Rattle.std.proofs.Common.{Bool, List, [], ◌∷◌, ◌++◌, ◌&&◌, not, Option, Some, None, if◌then◌else◌, length, sym, ap, ap₂, ◌∙◌}
use Rattle.axis_exchange.specs.Owners.{axis_state}
use Rattle.axis_sets.specs.Positions.{position_of}
use Rattle.coord_core.proofs.Takes.{Takes, known_where, taker_granted, taken_board, taken_kept}
use Rattle.coord_core.specs.Tables.{resting_in}
use Rattle.coord_core.specs.declared.activities.Activity.TheVariants.{Running, AtAxes}
use Rattle.sync_types.specs.declared.Grant.{Grant}
use Rattle.sync_types.specs.declared.runs.Go.{Go}
use Rattle.coord_core.proofs.state.State.take.Goals as goal

pub take_from-at-requires : goal.take_from-at-requires
take_from-at-requires c = record {
  known = λ x member.
      known_where (axis_state c.args.self.now.table.owners x) c.args.channel (position_of c.resting_positions-resting.result x) (resting_in c.args.self.now.table x)
      (c.resting_positions-resting.ensures.positions x
      ∙ ap (λ (b : Bool). if b then Some (resting_in c.args.self.now.table x) else None)
      (c.minus-taken.ensures.members x ∙ ap₂ (λ (a b : Bool). a && not b) member (c.owned_by.ensures.members x)));
}

pub grant_with-grant-requires : goal.grant_with-grant-requires
grant_with-grant-requires c =
    let k : Takes c.args.self.now.table c.args.self.now.channels c.args.channel c.all_axes-axes.result c.owned_by.result c.minus-taken.result c.in-AtAxes.field-2 c.take_from-at.new.self c.take_from-at.result = record {
      from_standing = c.in-AtAxes.field-0;
      resting = c.resting_positions-resting.result;
      number = (rw (← c.place_of-place.ensures.number) c.place_of-place.ensures.some, rw (← c.place_of-place.ensures.number) c.place_of-place.ensures.within);
      kept = c.requires.kept;
      waits = sym c.activity_of.ensures ∙ c.in-AtAxes.is ∙ ap (λ (s : List Bool). AtAxes c.in-AtAxes.field-0 s c.in-AtAxes.field-2) (sym c.all_axes-axes.ensures.same);
      size = ap (λ (s : List Bool). length s) c.all_axes-axes.ensures.same ∙ c.all_axes-axes.ensures.size;
      owned = c.owned_by.ensures.members;
      others = c.minus-taken.ensures.members;
      taken_size = c.minus-taken.ensures.size;
      told = c.resting_positions-resting.ensures.positions;
      states = c.take_from-at.ensures.states;
      positions = c.take_from-at.ensures.positions;
      at_size = c.take_from-at.ensures.size;
    } in
    record { kept = taken_kept c.args.self.now.table c.args.self.now.channels c.args.channel c.all_axes-axes.result c.owned_by.result c.minus-taken.result c.in-AtAxes.field-2 c.take_from-at.new.self c.take_from-at.result c.hand_over.new.zones.items k c.hand_over.ensures }

pub returns-clause-kept : goal.returns-clause-kept
returns-clause-kept c =
    let k : Takes c.args.self.now.table c.args.self.now.channels c.args.channel c.all_axes-axes.result c.owned_by.result c.minus-taken.result c.in-AtAxes.field-2 c.take_from-at.new.self c.take_from-at.result = record {
      from_standing = c.in-AtAxes.field-0;
      resting = c.resting_positions-resting.result;
      number = (rw (← c.place_of-place.ensures.number) c.place_of-place.ensures.some, rw (← c.place_of-place.ensures.number) c.place_of-place.ensures.within);
      kept = c.requires.kept;
      waits = sym c.activity_of.ensures ∙ c.in-AtAxes.is ∙ ap (λ (s : List Bool). AtAxes c.in-AtAxes.field-0 s c.in-AtAxes.field-2) (sym c.all_axes-axes.ensures.same);
      size = ap (λ (s : List Bool). length s) c.all_axes-axes.ensures.same ∙ c.all_axes-axes.ensures.size;
      owned = c.owned_by.ensures.members;
      others = c.minus-taken.ensures.members;
      taken_size = c.minus-taken.ensures.size;
      told = c.resting_positions-resting.ensures.positions;
      states = c.take_from-at.ensures.states;
      positions = c.take_from-at.ensures.positions;
      at_size = c.take_from-at.ensures.size;
    } in
    taken_kept c.args.self.now.table c.args.self.now.channels c.args.channel c.all_axes-axes.result c.owned_by.result c.minus-taken.result c.in-AtAxes.field-2 c.take_from-at.new.self c.take_from-at.result c.hand_over.new.zones.items k c.hand_over.ensures

pub returns-clause-board : goal.returns-clause-board
returns-clause-board c =
    let k : Takes c.args.self.now.table c.args.self.now.channels c.args.channel c.all_axes-axes.result c.owned_by.result c.minus-taken.result c.in-AtAxes.field-2 c.take_from-at.new.self c.take_from-at.result = record {
      from_standing = c.in-AtAxes.field-0;
      resting = c.resting_positions-resting.result;
      number = (rw (← c.place_of-place.ensures.number) c.place_of-place.ensures.some, rw (← c.place_of-place.ensures.number) c.place_of-place.ensures.within);
      kept = c.requires.kept;
      waits = sym c.activity_of.ensures ∙ c.in-AtAxes.is ∙ ap (λ (s : List Bool). AtAxes c.in-AtAxes.field-0 s c.in-AtAxes.field-2) (sym c.all_axes-axes.ensures.same);
      size = ap (λ (s : List Bool). length s) c.all_axes-axes.ensures.same ∙ c.all_axes-axes.ensures.size;
      owned = c.owned_by.ensures.members;
      others = c.minus-taken.ensures.members;
      taken_size = c.minus-taken.ensures.size;
      told = c.resting_positions-resting.ensures.positions;
      states = c.take_from-at.ensures.states;
      positions = c.take_from-at.ensures.positions;
      at_size = c.take_from-at.ensures.size;
    } in
    taken_board c.args.self.now.table c.args.self.now.channels c.set_activity.new.channels c.args.channel c.all_axes-axes.result c.owned_by.result c.minus-taken.result c.in-AtAxes.field-2 c.take_from-at.new.self c.take_from-at.result c.hand_over.new.zones.items c.running.result k c.hand_over.ensures
    (c.running.ensures ∙ ap Running (taker_granted c.args.self.now.table c.args.self.now.channels c.args.channel c.all_axes-axes.result c.owned_by.result c.minus-taken.result c.in-AtAxes.field-2 c.take_from-at.new.self c.take_from-at.result c.hand_over.new.zones.items c.grant_with-grant.result k c.hand_over.ensures (c.grant_with-grant.ensures c.args.self.now.channels))) c.set_activity.ensures

pub returns-clause-goes : goal.returns-clause-goes
returns-clause-goes c =
    let k : Takes c.args.self.now.table c.args.self.now.channels c.args.channel c.all_axes-axes.result c.owned_by.result c.minus-taken.result c.in-AtAxes.field-2 c.take_from-at.new.self c.take_from-at.result = record {
      from_standing = c.in-AtAxes.field-0;
      resting = c.resting_positions-resting.result;
      number = (rw (← c.place_of-place.ensures.number) c.place_of-place.ensures.some, rw (← c.place_of-place.ensures.number) c.place_of-place.ensures.within);
      kept = c.requires.kept;
      waits = sym c.activity_of.ensures ∙ c.in-AtAxes.is ∙ ap (λ (s : List Bool). AtAxes c.in-AtAxes.field-0 s c.in-AtAxes.field-2) (sym c.all_axes-axes.ensures.same);
      size = ap (λ (s : List Bool). length s) c.all_axes-axes.ensures.same ∙ c.all_axes-axes.ensures.size;
      owned = c.owned_by.ensures.members;
      others = c.minus-taken.ensures.members;
      taken_size = c.minus-taken.ensures.size;
      told = c.resting_positions-resting.ensures.positions;
      states = c.take_from-at.ensures.states;
      positions = c.take_from-at.ensures.positions;
      at_size = c.take_from-at.ensures.size;
    } in
    c.push.ensures.items ∙ ap (λ (g : Grant). let go : Go = record { channel = c.args.channel; grant = g } in c.args.goes.now.items ++ go ∷ [])
    (taker_granted c.args.self.now.table c.args.self.now.channels c.args.channel c.all_axes-axes.result c.owned_by.result c.minus-taken.result c.in-AtAxes.field-2 c.take_from-at.new.self c.take_from-at.result c.hand_over.new.zones.items c.grant_with-grant.result k c.hand_over.ensures (c.grant_with-grant.ensures c.args.self.now.channels))
