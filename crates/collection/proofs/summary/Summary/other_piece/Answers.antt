use Rattle.std.proofs.Common.{arith}
use Rattle.collection.specs.Fragments.{FragmentValue}
use Rattle.collection.specs.Kept.{shown}
use Rattle.collection.proofs.Hearing.{holds_same, other_told}
use Rattle.collection.proofs.summary.Summary.other_piece.Goals as goal

pub returns : goal.returns
returns g c = λ ps o.
    let piece = g.S.Shelf.piece c.args.shelf.now c.args.slot in
    let q : FragmentValue = shown c.args.packet in
    let same = holds_same c.holds-same_body.result (piece q.number) q.body (omega (arith, c.args.packet.limits)) c.holds-same_body.ensures in
    other_told ps c.args.self piece o q c.holds-same_body.result c.stops_at.result
    same (c.stops_at.ensures ps piece o) (o.heard c.args.packet.number (c.contains.ensures.0 c.if-not-contains.false))
