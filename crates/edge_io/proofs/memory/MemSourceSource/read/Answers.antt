-- The bytes from `at` on begin with those that the buffer took.
use Rattle.std.proofs.Common.{◌≡◌, ◌-◌, length, take, drop, refl, arith}
use Rattle.std.proofs.lemmas.List.{take_rest}
use Rattle.edge_io.proofs.MoveLemmas.{Loses-front, IsEmptied-none}
use Rattle.edge_io.proofs.memory.MemSourceSource.read.Goals as goal

pub returns-clause-bytes : goal.returns-clause-bytes
returns-clause-bytes c =
    let left : length (take (length c.deref-2.result.now - c.self.inside.at) (drop c.self.inside.at c.deref-2.result.now))
    ≡ length (drop c.self.inside.at c.self.inside.bytes.items)
    = rw (c.deref-2.ensures.value, take_rest) refl in
    rw (← c.self.view_is, c.copy_from_slice.ensures.after, c.deref-2.ensures.value, take_rest) (
      Loses-front c.min-taken.result c.self.inside.at c.self.inside.bytes.items _
          (omega (arith, left, c.min-taken.ensures, c.min.ensures)),
      λ none. IsEmptied-none _ (length c.args.buffer.now) c.self.inside.piece c.requires.room c.self.invariant.1
          (omega (arith, left, none, c.min-taken.ensures, c.min.ensures)),
    )
