-- What a push of a packet stores and hands out, from any session that passes question 5: every number fits its field, the rows are
-- read back as the records, and what was bytes stays bytes. Assumes nothing.
use Rattle.std.proofs.Common.{◌≡◌, ℕ, ◌+◌, ◌≤◌, length, arith}
use Rattle.isdb_tlv.specs.Fields.{Fit}
use Rattle.isdb_mmt.specs.Decoder.Packet.{Bytes, MpuPacket, Packet, ip_error, ntp, non_mmtp_of, media, message, control, other, classify}
use Rattle.isdb_mmt.specs.Decoder.Objects.{asset_after}
use Rattle.isdb_mmt.specs.Decoder.Model.{State, asset_of, pushed, gives}
use Rattle.isdb_mmt.specs.Decoder.Needs.{needs}
use Rattle.isdb_mmt.specs.Memory.Lent.{over}
use Rattle.isdb_mmt.specs.Memory.Layout.{most_count, most_mfu_area}
use Rattle.isdb_mmt.specs.Memory.Session.{Session, limits_of, counters_fields, media_fields}
use Rattle.isdb_mmt.specs.Memory.Check.{Sound, lengths_of}
use Rattle.isdb_mmt.specs.Memory.View.{view}
use Rattle.isdb_mmt.specs.Memory.Octets.{Octets, Lent}
use Rattle.isdb_mmt.specs.Memory.PlacesOf.{place_for_asset}
use Rattle.isdb_mmt.specs.Pushes.Records.{rows_from, data_from, read_rows}
use Rattle.isdb_mmt.specs.declared.decoder.limits.Limits.{Limits}
use Rattle.isdb_mmt.proofs.Limits.{Passed, passed}
use Rattle.isdb_mmt.proofs.Brief.{Plain, plain_of}
use Rattle.isdb_mmt.specs.Theorems.Room.{most_added}
use Rattle.isdb_mmt.proofs.RecordRows.{AllFit, rows_back}
use Rattle.isdb_mmt.proofs.Outs.{PacketOk, packet_ok, gives_fit}
use Rattle.isdb_mmt.proofs.PlaceFits.{asset_place, counters_place_lem}
use Rattle.isdb_mmt.proofs.Storable.{Storable, asset_of_lem, asset_next_lem, counters_next, storable_view}

-- ---- a packet's records

pub rows_of : (l : Limits) (n : ℕ) (s : State) → Storable l n s → (p : Packet) → PacketOk p → (needs s p).object ≤ most_mfu_area → AllFit 0 (gives s p)
unfolding gives needs
rows_of l n s h ip_error o k = tt
rows_of l n s h (ntp t) o k = tt
rows_of l n s h non_mmtp_of o k = tt
rows_of l n s h (media m) o k =
    gives_fit s.passing (asset_of m.id s) m o (asset_of_lem l n s h m.id (omega (arith, o.id))).1.held k
rows_of l n s h (message c) o k = tt
rows_of l n s h (control bs) o k = tt
rows_of l n s h other o k = tt

-- ---- a session and a packet of at most 65,535 bytes

module _ (s : Session) (q : Sound s.state s.others (lengths_of s)) (h : Lent s) (kind : ℕ) (b : Bytes) (short : length b ≤ 65535) (o : Octets b) where
  abbrev l : Limits
  l = limits_of s.state

  in_order : Passed l (lengths_of s)
  in_order = passed l (lengths_of s) q.limits

  is_ok : PacketOk (classify kind b)
  is_ok = packet_ok kind b (omega (arith, short)) o

  is_plain : Plain (classify kind b)
  is_plain = plain_of kind b (omega (arith, short)) o

  -- the place of a media id
  pub media_fits : (m : MpuPacket) → classify kind b ≡ media m → (needs (view s) (media m)).object ≤ l.mfu_area
      → Fit (media_fields (place_for_asset m.id (asset_after (asset_of m.id (view s)) m)))
  media_fits m e a =
      let k = asset_next_lem l most_count (view s) (storable_view s q h) m (rw e at is_ok) (rw e at is_plain) a in
      asset_place l.mfu_area (most_count + most_added) m.id _ (omega (arith, in_order.ranges.object)) (omega arith) k.0 k.1

  -- counts
  pub counters_fit : Fit (counters_fields (pushed (view s) (classify kind b)).counters)
  counters_fit =
      counters_place_lem (most_count + most_added) _ (omega arith) (counters_next l most_count (view s) (storable_view s q h) (classify kind b) is_ok is_plain)

  -- the records
  pub rows_fit : (needs (view s) (classify kind b)).object ≤ l.mfu_area → AllFit 0 (gives (view s) (classify kind b))
  rows_fit a =
      rows_of l most_count (view s) (storable_view s q h) (classify kind b) is_ok (omega (arith, a, in_order.ranges.object))

  pub rows_read : (needs (view s) (classify kind b)).object ≤ l.mfu_area → (rows given : Bytes)
      → read_rows (length (gives (view s) (classify kind b))) (over 0 (rows_from 0 (gives (view s) (classify kind b))) rows)
      (over 0 (data_from (gives (view s) (classify kind b))) given)
      ≡ gives (view s) (classify kind b)
  rows_read a rows given = rows_back (gives (view s) (classify kind b)) rows given (rows_fit a)
