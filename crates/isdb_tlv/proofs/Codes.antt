-- A code that is read is the code that was there. Assumes nothing.
use Prim.Native.Nat.{ℕ, ◌%◌}
use mathlib.Core.Path.{◌≡◌, refl, sym}
use native.Mathlib.Omega.{arith}
use lib.Dec.{eqb}
use borrow.Author.Tests.{eqb-true, eqb-false}
use Rattle.isdb_tlv.specs.Tlv.{type_byte, packet_type}
use Rattle.isdb_tlv.specs.Mmtp.{fec_code_of, fec_type_of, payload_code_of, payload_type_of}
use Rattle.isdb_tlv.specs.Facts.{CodesKept}
use Rattle.isdb_tlv.specs.declared.tlv.PacketType.{PacketType}
use Rattle.isdb_tlv.specs.declared.mmtp.FecType.{FecType}
use Rattle.isdb_tlv.specs.declared.mmtp.PayloadType.{PayloadType}
use Rattle.isdb_tlv.proofs.Guards.{cond_elim}

type_byte_lem : (b : ℕ) → type_byte (packet_type b) ≡ b
unfolding packet_type
type_byte_lem b =
    let P : PacketType → Type 0 = λ t. type_byte t ≡ b in
    cond_elim P (eqb b 0x01) (λ e. sym (eqb-true b 0x01 e)) (λ e1.
    cond_elim P (eqb b 0x02) (λ e. sym (eqb-true b 0x02 e)) (λ e2.
    cond_elim P (eqb b 0x03) (λ e. sym (eqb-true b 0x03 e)) (λ e3.
    cond_elim P (eqb b 0xFE) (λ e. sym (eqb-true b 0xFE e)) (λ e4.
    cond_elim P (eqb b 0xFF) (λ e. sym (eqb-true b 0xFF e)) (λ e5. refl)))))

fec_code : (c : ℕ) → fec_code_of (fec_type_of c) ≡ c % 4
unfolding fec_type_of
fec_code c =
    let P : FecType → Type 0 = λ f. fec_code_of f ≡ c % 4 in
    cond_elim P (eqb (c % 4) 0) (λ e. sym (eqb-true (c % 4) 0 e)) (λ e0.
    cond_elim P (eqb (c % 4) 1) (λ e. sym (eqb-true (c % 4) 1 e)) (λ e1.
    cond_elim P (eqb (c % 4) 2) (λ e. sym (eqb-true (c % 4) 2 e)) (λ e2.
    let n0 = eqb-false (c % 4) 0 e0 in
    let n1 = eqb-false (c % 4) 1 e1 in
    let n2 = eqb-false (c % 4) 2 e2 in
    omega arith)))

payload_code : (c : ℕ) → payload_code_of (payload_type_of c) ≡ c % 64
unfolding payload_type_of
payload_code c =
    let P : PayloadType → Type 0 = λ t. payload_code_of t ≡ c % 64 in
    cond_elim P (eqb (c % 64) 0x00) (λ e. sym (eqb-true (c % 64) 0x00 e)) (λ e0.
    cond_elim P (eqb (c % 64) 0x01) (λ e. sym (eqb-true (c % 64) 0x01 e)) (λ e1.
    cond_elim P (eqb (c % 64) 0x02) (λ e. sym (eqb-true (c % 64) 0x02 e)) (λ e2.
    cond_elim P (eqb (c % 64) 0x03) (λ e. sym (eqb-true (c % 64) 0x03 e)) (λ e3. refl))))

pub codes_kept : CodesKept
codes_kept = record { kind = type_byte_lem; fec = fec_code; payload = payload_code }
