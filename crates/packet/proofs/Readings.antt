-- From what the reader has tested to what it answers.
use Rattle.std.proofs.Common.{◌≡◌, ℕ, ◌+◌, ◌-◌, ◌<◌, ◌≤◌, Bool, List, [], ◌∷◌, length, get_or, take, drop, sym, ap, ◌∙◌, subst, arith}
use Rattle.std.proofs.lemmas.List.{take_rest, drop-drop}
use Rattle.wire.specs.declared.order.ByteOrder.{ByteOrder}
use Rattle.wire.specs.declared.refusal.Refusal.{Refusal}
use Rattle.wire.specs.Numbers.{number_of}
use Rattle.wire.specs.declared.refusal.Layer.TheVariants.{Packet}
use Rattle.wire.specs.Refusals.{RefusedBy}
use Rattle.wire.proofs.Fronts.{take_elements}
use Rattle.packet.specs.declared.Fields.{Fields}
use Rattle.packet.specs.Limits.{magic_bytes}
use Rattle.packet.specs.Packets.{PacketValue, Encodes, Numbered, body_start}
use Rattle.packet.specs.Fields.{FieldsIn}
use Rattle.packet.specs.Datagrams.{Flaw, Refused, order_in, body_length_in, number_in, count_in, id_length_in}
use Rattle.packet.proofs.Flaws.{Passed, pass, pass_none, refused, flawed_none}

-- a refusal is of bytes that are those of no packet
pub refusing : {n place : ℕ} {e : Refusal} (xs : List ℕ) → RefusedBy Packet n place e → Passed xs n → Flaw xs n place → Refused xs e × ((v : PacketValue) → Encodes v xs → ⊥)
refusing xs r p w = (refused xs r p w, flawed_none xs _ _ w)

-- the slice pattern's four bytes
abbrev pub Opens : List ℕ → Type 0
Opens xs = (get_or xs 0 0 ≡ 77) × (get_or xs 1 0 ≡ 73) × (get_or xs 2 0 ≡ 79) × (get_or xs 3 0 ≡ 80)

pub opens_magic : (xs : List ℕ) → 20 ≤ length xs → Opens xs → take 4 xs ≡ magic_bytes
opens_magic xs l o = let e : take 4 xs ≡ _ = take_elements 4 0 xs (omega arith) in cc

pub magic_opens : (xs : List ℕ) → 20 ≤ length xs → take 4 xs ≡ magic_bytes → Opens xs
magic_opens xs l m =
    let e : magic_bytes ≡ get_or xs 0 0 ∷ get_or xs 1 0 ∷ get_or xs 2 0 ∷ get_or xs 3 0 ∷ [] = sym m ∙ take_elements 4 0 xs (omega arith) in
    (cc, cc, cc, cc)

-- the numbers of the header, by their places in the datagram
pub record FieldsKnown (xs : List ℕ) (f : Fields) : Type 0 where
  pub body_is : f.body_length ≡ body_length_in xs
  pub number_is : f.number ≡ number_in xs
  pub count_is : f.count ≡ count_in xs
  pub id_is : f.id_length ≡ id_length_in xs

pub fields_known : {o : ByteOrder} {f : Fields} (xs : List ℕ) → o ≡ order_in xs → FieldsIn o (take (length xs - 6) (drop 6 xs)) f → FieldsKnown xs f
fields_known {o} {f} xs e a =
    let r = take_rest xs 6 in
    let P : ByteOrder → List ℕ → Type 0 = λ u ys. FieldsIn u ys f in
    let b : FieldsIn (order_in xs) (drop 6 xs) f = subst (λ ys. P (order_in xs) ys) r (subst (λ u. P u (take (length xs - 6) (drop 6 xs))) e a) in
    let at : (k n : ℕ) → take n (drop k (drop 6 xs)) ≡ take n (drop (6 + k) xs) = λ k n. ap (take n) (drop-drop k 6 xs) in
    let read = number_of (order_in xs) in
    record {
      body_is = b.body_is;
      number_is = b.number_is ∙ ap read (at 2 4);
      count_is = b.count_is ∙ ap read (at 6 4);
      id_is = b.id_is ∙ ap read (at 10 4);
    }

-- the tests before the numbers of the header
pub pass_head : (xs : List ℕ) → 20 ≤ length xs → length xs ≤ 1472 → Opens xs → get_or xs 4 0 ≡ 16 → get_or xs 5 0 < 4 → Passed xs 5
pass_head xs l s o v f = pass xs 4 (pass xs 3 (pass xs 2 (pass xs 1 (pass_none xs) (l, s)) (opens_magic xs l o)) v) f

-- what the reader knows once it has the numbers of the header and the body's place
pub record HeaderKnown (xs : List ℕ) (f : Fields) (start : ℕ) : Type 0 where
  pub passed : Passed xs 5
  pub fields : FieldsKnown xs f
  pub start_is : start ≡ body_start (id_length_in xs)

pub header_known : {o : ByteOrder} {f : Fields} {start : ℕ} (xs : List ℕ) → 20 ≤ length xs → length xs ≤ 1472 → Opens xs → get_or xs 4 0 ≡ 16 → get_or xs 5 0 < 4
    → o ≡ order_in xs → FieldsIn o (take (length xs - 6) (drop 6 xs)) f → start ≡ body_start f.id_length → HeaderKnown xs f start
header_known xs l s o v g e a b =
    let k = fields_known xs e a in
    record { passed = pass_head xs l s o v g; fields = k; start_is = b ∙ ap body_start k.id_is }

-- what is borrowed from the datagram
pub id_part : (xs : List ℕ) (n m : ℕ) → n ≡ m → take ((20 + n) - 20) (drop 20 xs) ≡ take m (drop 20 xs)
id_part xs n m e = let h : (20 + n) - 20 ≡ m = omega arith in ap (λ k. take k (drop 20 xs)) h

pub body_part : (xs : List ℕ) (a b : ℕ) → a ≡ b → take (length xs - a) (drop a xs) ≡ drop b xs
body_part xs a b e = take_rest xs a ∙ ap (λ k. drop k xs) e

-- the same numbers go together alike
pub numbers_known : {n m k l : ℕ} {s t : Bool} → n ≡ m → k ≡ l → s ≡ t → (Numbered n k s → Numbered m l t) × (Numbered m l t → Numbered n k s)
numbers_known {n} {m} {k} {l} {s} {t} a b d = (λ h. rw (← a, ← b, ← d) h, λ h. rw (a, b, d) h)
