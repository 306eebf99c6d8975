-- What a sender that conforms to RFC 8200 writes is read right. Assumes nothing.
use Rattle.std.specs.Prelude.{None, Some}
use Prim.Native.Nat.{ℕ, ◌/◌, ◌^◌, ◌≤◌}
use mathlib.Core.Path.{◌≡◌, ◌∙◌}
use mathlib.Core.List.{◌++◌, append_assoc}
use mathlib.Core.Bool.{false}
use native.Mathlib.Omega.{arith}
use lib.Dec.{ltb}
use lib.ListN.{length, drop, length-append}
use lib.Seq.{drop_at}
use borrow.Author.Tests.{le-ltb}
use Rattle.isdb_tlv.specs.Bytes.{be}
use Rattle.isdb_tlv.specs.Fields.{written}
use Rattle.isdb_tlv.specs.Ip.{version, next_header, datagram, ipv6_of}
use Rattle.isdb_tlv.specs.Rfc8200.{Ipv6, header, sent, Conforming, flow_of, Theorem}
use Rattle.isdb_tlv.proofs.Fields.{be_one, be_high, field_at, offset_of, length_written, read}

module _ (d : Ipv6) (c : Conforming d) where
  -- the fields of the header, by index
  of : (k : ℕ) → be (field_at k (header d)).width (sent d) (offset_of k (header d)) ≡ (field_at k (header d)).value
  unfolding sent
  of k = read (header d) (omega arith) k d.payload

  six : version (sent d) ≡ 6
  unfolding sent
  six =
      let v = (field_at 0 (header d)).value in
      let e : be 1 (sent d) 0 ≡ v / 256 ^ 3 = rw append_assoc (be_high 1 3 v (written (drop 1 (header d)) ++ d.payload) (omega arith)) in
      rw (be_one (sent d) 0, e) (omega arith)

  udp : next_header (sent d) ≡ 17
  udp = be_one (sent d) 6 ∙ of 2

  enough : (n : ℕ) → n ≤ 48 → ltb (length (sent d)) n ≡ false
  unfolding sent
  enough n h = le-ltb (length (sent d)) n (rw (length-append, length_written (header d)) (omega arith))

  fields : ipv6_of (sent d) ≡ datagram None (Some (flow_of d)) 48
  unfolding ipv6_of
  fields =
      rw (enough 40 (omega arith), six, udp, enough 48 (omega arith))
      (rw (of 4, of 5, of 6, of 7, of 8, of 9))

  payload : drop 48 (sent d) ≡ d.payload
  unfolding sent
  payload = drop_at (written (header d)) d.payload 48 (length_written (header d))

pub rfc8200 : Theorem
rfc8200 d c = record { fields = fields d c; payload = payload d c }
