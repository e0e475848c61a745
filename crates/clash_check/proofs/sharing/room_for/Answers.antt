use Rattle.std.proofs.Common.{div-mul-le_self}
use Rattle.clash_check.proofs.sharing.room_for.Goals as goal

pub returns : goal.returns
returns c = div-mul-le_self c.args.room c.args.chunks
