-- The session as a state of the model: what its bytes say.
use Rattle.std.specs.Prelude.{◌≡◌, ℕ, ◌+◌, ◌*◌, Bool, true, false, None, Some, Option}
use Rattle.isdb_mmt.specs.Decoder.Packet.{Bytes}
use Rattle.isdb_mmt.specs.Decoder.Objects.{Mfu, Asset}
use Rattle.isdb_mmt.specs.Decoder.Kept.{Kept}
use Rattle.isdb_mmt.specs.Decoder.Model.{State, Control as ControlState, opened}
use Rattle.isdb_mmt.specs.Memory.Lent.{part, indexed}
use Rattle.isdb_mmt.specs.Memory.Session.{Session, limits_of, latest_of, time_of, counters_of}
use Rattle.isdb_mmt.specs.Memory.Check.{media_in, controls_in, sections_in, lengths_of, sound}
use Rattle.isdb_mmt.specs.Memory.Opening.{opened_session}
use Rattle.isdb_mmt.specs.Memory.Limits.{asked}
use Rattle.isdb_mmt.specs.declared.mpu.MfuHeader.{MfuHeader}
use Rattle.isdb_mmt.specs.declared.decoder.limits.Limits.{Limits}
use Rattle.isdb_mmt.specs.declared.decoder.media.Object.{Object}
use Rattle.isdb_mmt.specs.declared.decoder.media.Media.{Media}
use Rattle.isdb_mmt.specs.declared.decoder.control.Control.{Control}
use Rattle.isdb_mmt.specs.declared.decoder.section.KeptSection.{KeptSection}

-- what a flag says is there
abbrev pub given : {A : Type 0} → Bool → A → Option A
given true a = Some a
given false a = None

abbrev pub header_given : Bool → MfuHeader → Option MfuHeader
header_given true h = Some h
header_given false h = None

abbrev pub item_given : Bool → ℕ → Option ℕ
item_given true i = Some i
item_given false i = None

-- a held object with its bytes
unfoldable pub mfu_of : Object → Bytes → Mfu
mfu_of o b =
    record {
      mpu = o.mpu_sequence_number;
      rap = o.rap;
      mfu = header_given o.timed o.header;
      item_id = item_given o.item o.item_id;
      bytes = b;
    }

-- a media place; the range of MPU numbers ends with the last one
unfoldable pub asset_of_place : Media → Bytes → Asset
unfolding mfu_of
asset_of_place m b =
    record {
      number = given m.seen m.sequence;
      mpu = given m.mpu_seen m.mpu;
      held = given m.held (mfu_of m.object b);
      range = given m.mpu_seen (m.first_mpu, m.mpu);
      stats = m.stats;
    }

-- a control place: the message that is being joined, and the MPT
unfoldable pub control_state_in : Control → Bytes → Bytes → ControlState
control_state_in c message mpt =
    record {
      reassembly =
          record {
            number = given c.seen c.sequence;
            partial = given c.joining (record { long = c.long_length; aggregated = c.aggregated; bytes = message });
          };
      mpt = given c.mpt mpt;
    }

-- the areas: the held object of media place i is in area i of the objects, the message of control place i in area i of the
-- messages; of the tables, section places come first, then the MPT of each control place, the PLT and the TOT
abbrev pub kept_table_at : Limits → Session → ℕ → ℕ → Bytes
kept_table_at l s i n = part (i * l.table_area) n s.tables

abbrev pub asset_entry : Limits → Session → ℕ → Media → ℕ × Asset
asset_entry l s i m = (m.packet_id, asset_of_place m (part (i * l.mfu_area) m.object.length s.objects))

abbrev pub control_entry : Limits → Session → ℕ → Control → ℕ × ControlState
control_entry l s i c = (
  c.packet_id,
  control_state_in c (part (i * l.message_area) c.length s.messages) (kept_table_at l s (l.sections + i) c.mpt_length),
)

abbrev pub section_entry : Limits → Session → ℕ → KeptSection → ℕ × Kept
section_entry l s i x = (x.key, record { version = x.version; bytes = kept_table_at l s i x.length })

unfoldable pub view_by : Limits → Session → State
unfolding indexed asset_of_place control_state_in
view_by l s =
    record {
      passing = l.pass_scrambled;
      assets = indexed (asset_entry l s) 0 (media_in s.state);
      controls = indexed (control_entry l s) 0 (controls_in s.state);
      store =
          record {
            plt = given (latest_of s.state).plt (kept_table_at l s (l.sections + l.control_ids) (latest_of s.state).plt_length);
            tot = given (latest_of s.state).tot (kept_table_at l s (l.sections + l.control_ids + 1) (latest_of s.state).tot_length);
            kept = indexed (section_entry l s) 0 (sections_in s.state);
            others = s.others;
          };
      time = given (time_of s.state).seen (time_of s.state).timestamp;
      counters = (counters_of s.state);
    }

unfoldable pub view : Session → State
unfolding view_by limits_of
view s = view_by (limits_of s.state) s

-- after an accepted opening the lent bytes hold a session, which is the model's opened state
pub record Fresh (l : Limits) (s : Session) : Type 0 where
  pub session : sound (opened_session l s) ≡ true
  pub state : view (opened_session l s) ≡ opened l.pass_scrambled

abbrev pub Opening : Type 0
Opening = (l : Limits) (s : Session) → asked l (lengths_of s) ≡ 0 → Fresh l s
