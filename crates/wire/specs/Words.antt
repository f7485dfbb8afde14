-- The words of a byte order.
use Rattle.std.specs.Prelude.{◌≡◌, ◌↔◌, ℕ, List, Result, Ok, codes}
use Rattle.wire.specs.declared.order.ByteOrder.{ByteOrder}
use Rattle.wire.specs.declared.order.ByteOrder.TheVariants.{Big, Little}
use Rattle.wire.specs.declared.order.UnknownByteOrder.{UnknownByteOrder}

-- the answer to a text: the order that it names, or none
pub record NamesOrder (text : List ℕ) (r : Result ByteOrder UnknownByteOrder) : Type 0 where
  pub big : (r ≡ Ok Big) ↔ (text ≡ codes "big")
  pub little : (r ≡ Ok Little) ↔ (text ≡ codes "little")
