-- Laws of the calls on a session. Assumes nothing.
use Prim.Native.Nat.{ℕ}
use mathlib.Core.Path.{◌≡◌, refl, sym, ◌∙◌, ap}
use mathlib.Core.List.{List}
use lib.Dec.{eqb}
use borrow.Author.Tests.{eqb-true}
use Rattle.isdb_tlv.proofs.Guards.{either}
use Rattle.isdb_mmt.specs.Decoder.Packet.{Bytes}
use Rattle.isdb_mmt.specs.Memory.Session.{Session}
use Rattle.isdb_mmt.specs.Pushes.Push.{Input, Pushed}
use Rattle.isdb_mmt.specs.Pushes.PushAll.{AllPushed}
use Rattle.isdb_mmt.specs.declared.decoder.many.Pushes.{Pushes}
use Rattle.isdb_host.specs.Values.{code_of, Replied}
use Rattle.isdb_host.specs.Session.{push_said, HostPushed, all_said, HostPushedAll}
use Rattle.isdb_host.proofs.Numbers.{replied_as}

-- a push returns its number
push_code : (n records bytes : ℕ) → code_of (push_said n records bytes) ≡ n
push_code n records bytes = either (eqb n 0) (λ t. rw (t) (sym (eqb-true n 0 t))) (λ t. rw (t) refl)

pub host_pushed : {s s' : Session} {x : Input} {n r records bytes : ℕ} {rows out : Bytes} {v w : List ℕ}
    → Pushed s x n records bytes s' rows out → Replied (push_said n records bytes) r v w → HostPushed s x r s' rows out v w
host_pushed {n = n} {r = r} {records = records} {bytes = bytes} p a =
    let same : r ≡ n = a.number ∙ push_code n records bytes in
    record { records = records; bytes = bytes; pushed = rw same p; replied = replied_as a (ap (λ k. push_said k records bytes) same) }

-- a call for many packets, with its answer
pub host_pushed_all : {s s' : Session} {input rows out lines rows' out' lines' : Bytes} {most r : ℕ} {a : Pushes} {v w : List ℕ}
    → AllPushed s input most rows out lines a s' rows' out' lines' → Replied (all_said a) r v w
    → HostPushedAll s input most rows out lines r s' rows' out' lines' v w
host_pushed_all {a = a} p q = record { pushes = a; pushed = p; replied = q }
