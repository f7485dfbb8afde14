use Rattle.std.proofs.Common.{◌≡◌, ℕ, ◌-◌, ◌*◌, List, length, take, sym, ap, ◌∙◌, subst, arith}
use Rattle.std.proofs.lemmas.List.{length-take-le}
use Rattle.shelf.specs.Units.{units_held}
use Rattle.block.specs.Dumps.{block_at, Passes}
use Rattle.blocks.specs.Parts.{piece_in}
use Rattle.blocks.specs.Props.{sound_of}
use Rattle.blocks.proofs.Inspections.{sound_passes}
use Rattle.blocks.proofs.BlockShelf.blocks.Goals as goal

pub returns : goal.returns
returns c =
    let x = c.args.self.now in
    let m = x.memory.now in
    let own : take (x.count * 512 - 0) m ≡ take (x.count * 512) m = let e : x.count * 512 - 0 ≡ x.count * 512 = omega arith in ap (λ (n : ℕ). take n m) e in
    record {
      own = own;
      size = ap length own ∙ length-take-le (x.count * 512) m x.fits;
      passes = subst (λ (xs : List ℕ). Passes xs (units_held 500 (piece_in (block_at m) x.count))) (sym own)
          (sound_passes m x.count x.fits (sound_of (block_at m) x.count x.sound));
    }
