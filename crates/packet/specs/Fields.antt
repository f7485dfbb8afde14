-- The numbers of the header, as the reader finds them.
use Rattle.std.specs.Prelude.{◌≡◌, ℕ, List, take, drop}
use Rattle.wire.specs.declared.order.ByteOrder.{ByteOrder}
use Rattle.wire.specs.Numbers.{number_of}
use Rattle.packet.specs.declared.Fields.{Fields}

-- the numbers stand in these bytes, which begin with the body length
pub record FieldsIn (o : ByteOrder) (xs : List ℕ) (f : Fields) : Type 0 where
  pub body_is : f.body_length ≡ number_of o (take 2 xs)
  pub number_is : f.number ≡ number_of o (take 4 (drop 2 xs))
  pub count_is : f.count ≡ number_of o (take 4 (drop 6 xs))
  pub id_is : f.id_length ≡ number_of o (take 4 (drop 10 xs))
