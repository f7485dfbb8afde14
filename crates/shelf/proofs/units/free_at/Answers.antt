use Rattle.std.proofs.Common.{sym, subst}
use Rattle.shelf.proofs.Places.{unit_here, one_unit}
use Rattle.shelf.proofs.units.free_at.Goals as goal

pub returns : goal.returns
returns g c =
    let m = c.args.memory.now in
    let ys = c.free.new.bytes in
    let j = c.args.index in
    record {
      freed = subst g.U.Unit.Freed (sym (unit_here g.row.N m ys j c.requires c.free.ensures.long)) c.free.ensures.freed;
      one = one_unit g.row.N m ys j c.requires c.free.ensures.long;
    }
