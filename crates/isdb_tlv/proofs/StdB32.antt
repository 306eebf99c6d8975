-- What a sender that conforms to ARIB STD-B32 Part 3 writes is read right. Assumes nothing.
use Rattle.std.specs.Prelude.{Some}
use Prim.Native.Nat.{ℕ, suc, ◌+◌, ◌≤◌, ◌<◌}
use mathlib.Core.Path.{◌≡◌, refl, ◌∙◌}
use mathlib.Core.List.{List}
use mathlib.Core.Bool.{false}
use native.Mathlib.Omega.{arith}
use lib.Dec.{ltb}
use lib.ListN.{length, drop, length-append}
use lib.Seq.{drop_at}
use borrow.Author.Tests.{le-ltb}
use Rattle.isdb_tlv.specs.Bytes.{be}
use Rattle.isdb_tlv.specs.Fields.{written, Fit}
use Rattle.isdb_tlv.specs.Tlv.{packet_type}
use Rattle.isdb_tlv.specs.Ip.{context_id, header_type as type_read, datagram, partial_ipv4, partial_ipv6, header_id, compressed_of}
use Rattle.isdb_tlv.specs.StdB32.{Kind, ipv4_packet, ipv6_packet, compressed_ip, transmission_control, null_packet, kind_code, kind_seen}
use Rattle.isdb_tlv.specs.StdB32.{Tlv, tlv_header, tlv_sent, TlvConforming, TlvTheorem}
use Rattle.isdb_tlv.specs.StdB32.{Header, ipv4, ipv4_id, ipv6, ipv6_id, header_type, compressed_fields, Hcfb, hcfb_fields, hcfb_sent}
use Rattle.isdb_tlv.specs.StdB32.{HeaderConforming, ipv4_fits, ipv4_id_fits, ipv6_fits, ipv6_id_fits, HcfbConforming, flow_in, start_of, HcfbTheorem}
use Rattle.isdb_tlv.proofs.Fields.{be_one, size, field_at, offset_of, length_written, read}

-- a kind's number fits its byte, and names it
kind_fits : (k : Kind) → kind_code k < 256
kind_fits ipv4_packet = omega arith
kind_fits ipv6_packet = omega arith
kind_fits compressed_ip = omega arith
kind_fits transmission_control = omega arith
kind_fits null_packet = omega arith

pub kind_named : (k : Kind) → packet_type (kind_code k) ≡ kind_seen k
unfolding packet_type
kind_named ipv4_packet = refl
kind_named ipv6_packet = refl
kind_named compressed_ip = refl
kind_named transmission_control = refl
kind_named null_packet = refl

module _ (t : Tlv) (c : TlvConforming t) where
  of_tlv : (k : ℕ) → be (field_at k (tlv_header t)).width (tlv_sent t) (offset_of k (tlv_header t)) ≡ (field_at k (tlv_header t)).value
  unfolding tlv_sent
  of_tlv k = read (tlv_header t) (let h = kind_fits t.kind in let n = c.short in omega arith) k t.content

  content : drop 4 (tlv_sent t) ≡ t.content
  unfolding tlv_sent
  content = drop_at (written (tlv_header t)) t.content 4 (length_written (tlv_header t))

pub tlv : TlvTheorem
tlv t c =
    record {
      sync = be_one (tlv_sent t) 0 ∙ of_tlv t c 0;
      kind = rw (be_one (tlv_sent t) 1 ∙ of_tlv t c 1) (kind_named t.kind);
      content_length = of_tlv t c 2;
      content = content t c;
    }

fits : {h : Header} → HeaderConforming h → (header_type h < 256) × Fit (compressed_fields h)
fits (ipv4_fits l t i f h s d p q) = omega arith
fits (ipv4_id_fits i) = omega arith
fits (ipv6_fits t f h sh sl dh dl p q) = omega arith
fits ipv6_id_fits = omega arith

start : (h : Header) → 2 + (1 + size (compressed_fields h)) ≡ start_of h
start (ipv4 l t i f h s d p q) = refl
start (ipv4_id i) = refl
start (ipv6 t f h sh sl dh dl p q) = refl
start ipv6_id = refl

-- what stands behind the header type, by index of the field, tells how the packet is read
parsed : (h : Header) (s : List ℕ) → type_read s ≡ header_type h → ((n : ℕ) → n ≤ start_of h → ltb (length s) n ≡ false)
    → ((k : ℕ) → be (field_at k (compressed_fields h)).width s (2 + (1 + offset_of k (compressed_fields h))) ≡ (field_at k (compressed_fields h)).value)
    → compressed_of s ≡ datagram (Some (context_id s)) (flow_in h) (start_of h)
unfolding compressed_of partial_ipv4 partial_ipv6 header_id
parsed (ipv4 l t i f h a b p q) s type enough of =
    rw (enough 3 (omega arith), type, enough 23 (omega arith), be_one s 10, of 5, of 6, of 7, of 8, of 9)
parsed (ipv4_id i) s type enough of = rw (enough 3 (omega arith), type, enough 5 (omega arith))
parsed (ipv6 t f h ah al bh bl p q) s type enough of =
    rw (enough 3 (omega arith), type, enough 45 (omega arith), be_one s 7, of 1, of 3, of 4, of 5, of 6, of 7, of 8)
parsed ipv6_id s type enough of = rw (enough 3 (omega arith), type)

module _ (p : Hcfb) (c : HcfbConforming p) where
  front : length (written (hcfb_fields p)) ≡ start_of p.header
  front = length_written (hcfb_fields p) ∙ start p.header

  enough : (n : ℕ) → n ≤ start_of p.header → ltb (length (hcfb_sent p)) n ≡ false
  unfolding hcfb_sent
  enough n h = le-ltb (length (hcfb_sent p)) n (rw (length-append, front) (omega arith))

  of_hcfb : (k : ℕ) → be (field_at k (hcfb_fields p)).width (hcfb_sent p) (offset_of k (hcfb_fields p)) ≡ (field_at k (hcfb_fields p)).value
  unfolding hcfb_sent
  of_hcfb k = read (hcfb_fields p) (omega arith, fits c.header) k p.payload

  context : context_id (hcfb_sent p) ≡ p.context
  context = rw (of_hcfb 0) (omega arith)

  fields : compressed_of (hcfb_sent p) ≡ datagram (Some p.context) (flow_in p.header) (start_of p.header)
  fields =
      rw context at
      (parsed p.header (hcfb_sent p) (be_one (hcfb_sent p) 2 ∙ of_hcfb 1) enough (λ k. of_hcfb (suc (suc k))))

  payload : drop (start_of p.header) (hcfb_sent p) ≡ p.payload
  unfolding hcfb_sent
  payload = drop_at (written (hcfb_fields p)) p.payload (start_of p.header) front

pub hcfb : HcfbTheorem
hcfb p c = record { fields = fields p c; payload = payload p c }
