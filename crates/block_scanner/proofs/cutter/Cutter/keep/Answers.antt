-- A line is too long when it was so, or when there is no room for all the bytes.
use Rattle.std.proofs.Common.{◌≡◌, ◌∙◌, ◌-◌, ◌++◌, ℕ, List, Bool, true, false, nat_lt, length, true≢false, sym, rules}
use Rattle.block_scanner.specs.LineParts.{LinePart, part_of}
use Rattle.block_scanner.proofs.LinePartLaws.{part_more}
use Rattle.block_scanner.proofs.cutter.Cutter.keep.Goals as goal
use Rattle.block_scanner.proofs.cutter.Cutter.keep.Goals.{then-self, else-self}

pub returns : goal.returns
returns c = λ raw is.
    let more : c.self.inside.too_long ≡ true → c.if-self.self ≡ true =
    elim c.if-self.branch [ then-self w ↦ (λ long. w.self-is ∙ long) | else-self w ↦ (λ long. absurd (true≢false (sym long ∙ w.if-self.false))) ] in
    let fits : c.self.inside.too_long ≡ false → c.if-self.self ≡ nat_lt (512 - c.self.inside.kept) (length c.args.bytes.now) =
    elim c.if-self.branch [ then-self w ↦ (λ is_short. absurd (true≢false (sym w.if-self.true ∙ is_short))) | else-self w ↦ (λ is_short. w.self-is) ] in
    part_more raw c.args.bytes.now c.self.inside.buffer c.fill-self-inside.new.buffer c.self.inside.kept c.fill-self-inside.result c.self.inside.too_long c.if-self.self
    c.self.inside.ended c.args.ended c.self.invariant c.self.told (c.self.view_is ∙ is) c.fill-self-inside.ensures.front more fits
