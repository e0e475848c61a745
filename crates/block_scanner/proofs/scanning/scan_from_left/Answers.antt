use Rattle.std.proofs.Common.{◌+◌, ◌∙◌, sym, length-drop, arith}
use Rattle.std.proofs.lemmas.List.{take_rest}
use Rattle.block_scanner.specs.declared.Token.{Token}
use Rattle.block_scanner.proofs.Steps.{token_step, order_push}
use Rattle.block_scanner.proofs.scanning.scan_from_left.Goals as goal

pub loop-first-preserved : goal.loop-first-preserved
loop-first-preserved c =
    let at = c.loop-first.at in
    let following = c.in-Some.following.now in
    let kind = c.in-Stands.kind in
    let more = c.in-Stands.more in
    let token : Token = record { kind = kind; start = at; end = at + 1 + more } in
    let split = c.in-Some.ensures.cases in
    let fits = c.in-Stands.ensures.fits in
    let pushed = c.in_ok-push-in-Stands.ensures.ok in
    record {
      place = rw (take_rest following more) (omega (arith, length-drop more following, split.1, fits));
      goes_on = rw (take_rest following more, pushed)
          (sym (token_step c.loop-first.tokens.items at c.loop-first.rest.now c.in-Some.first.now following kind more split.0 c.in-Stands.ensures.value fits)
          ∙ c.loop-first.invariant.goes_on);
      ordered = rw pushed (order_push c.loop-first.tokens.items token 0 at c.loop-first.invariant.ordered (omega arith) (omega arith));
    }
