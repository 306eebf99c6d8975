-- Readings of a session: what is answered after some packets.
use Rattle.std.specs.Prelude.{◌≡◌, refl, false, [], ◌∷◌, Some, None, Ok}
use Rattle.isdb_mmt.specs.declared.decoder.readings.Held.TheVariants.{NoId, Object}
use Rattle.isdb_mmt.specs.Formats.Part.{part_at}
use Rattle.isdb_mmt.specs.Memory.Refusals.{number_of}
use Rattle.isdb_mmt.specs.declared.decoder.refusal.Refusal.TheVariants.{NotASession}
use Rattle.isdb_mmt.specs.Examples.Cases.{ab}
use Rattle.isdb_mmt.specs.Examples.ControlCases.{fragment, first_part, table_message, nit1, mpt}
use Rattle.isdb_mmt.specs.Examples.PushCases.{ntp, plt, tot}
use Rattle.isdb_mmt.specs.Answers.Readings.{nothing, refused, these}
use Rattle.isdb_mmt.specs.Examples.ReadingCases.{told, counters_in, time_in, count_in, media_from, control_from, key_from, media_in, held_in, control_in, section_in, mpt_in, plt_in, tot_in, asset_in, feed, timed, counted, name, media, object, control, table, asset, after, damaged, units, nits, mpts, one_unit_of, only_counted}

-- Refusal::number: the question's
-- wrong: 5 => 4 (counted from 0)
-- wrong: 5 => 0 (as if it were taken)
pub refusal_number : number_of NotASession ≡ 5
refusal_number = refl

-- Session::counters, after two packets with a section each
-- wrong: only_counted 2 2 => only_counted 1 1 (a packet late)
-- wrong: only_counted 2 2 => only_counted 2 0 (tables that are kept are not counted)
pub counters : told (counters_in nits) ≡ feed (Ok (only_counted 2 2))
unfolding told
counters = refl

-- Session::time, after an NTP packet
-- wrong: Some 0x0102030405060708 => Some 0x0506070801020304 (the halves exchanged)
-- wrong: Some 0x0102030405060708 => None (none)
pub time : told (time_in (after (ntp ∷ []))) ≡ timed (Ok (Some 0x0102030405060708))
unfolding told
time = refl

-- Session::table_count, of an id that came once
-- wrong: Ok 1 => Ok 0 (not counted)
-- wrong: Ok 1 => Ok 2 (once as a table, once as one of its id)
pub table_count : told (count_in (after (fragment 0x00 (table_message 1 (0x21 ∷ [])) ∷ [])) 0x21) ≡ counted (Ok 1)
unfolding told
table_count = refl

-- Session::next_media: the least id, though another came first
-- wrong: Some 0xF100 => Some 0xF101 (the one that came first)
-- wrong: Some 0xF100 => None (none)
pub next_media : told (media_from units 0) ≡ name (Ok (Some 0xF100))
unfolding told
next_media = refl

-- Session::next_media: from an id on, itself included
-- wrong: Some 0xF101 => None (only those behind it)
-- wrong: Some 0xF101 => Some 0xF100 (the least of all)
pub next_media_from : told (media_from units 0xF101) ≡ name (Ok (Some 0xF101))
unfolding told
next_media_from = refl

-- Session::next_control
-- wrong: Some 0x8000 => Some 0x8001 (the one that came first)
-- wrong: Some 0x8000 => None (none)
pub next_control : told (control_from mpts 0) ≡ name (Ok (Some 0x8000))
unfolding told
next_control = refl

-- Session::next_key: of a table id that is not kept there is none, though other keys lie behind
-- wrong: None => Some 0x40000400 (the least from there on)
-- wrong: None => Some 0x40000401 (the largest)
pub next_key : told (key_from nits 0x30000000 0x30FFFFFF) ≡ name (Ok None)
unfolding told
next_key = refl

-- Session::next_key: the last one of a sort
-- wrong: Some 0x40000401 => None (the end of the range is left out)
-- wrong: Some 0x40000401 => Some 0x40000400 (its start is passed over)
pub next_key_last : told (key_from nits 0x40000401 0x40000401) ≡ name (Ok (Some 0x40000401))
unfolding told
next_key_last = refl

-- Session::media, of an id that holds an object of two bytes
-- wrong: held = Some 2 => held = None (nothing held)
-- wrong: first = 7 => first = 0 (the range starts at 0)
pub media_state : told (media_in units 0xF100)
    ≡ media (Ok (Some (record { stats = one_unit_of; sequence = Some 5; mpu_range = Some (record { first = 7; last = 7 }); held = Some 2 })))
unfolding told
media_state = refl

-- Session::held: the bytes lie in the area of the id's place, here the second
-- wrong: bytes = part_at 2 2 => bytes = part_at 0 2 (the first area)
-- wrong: bytes = part_at 2 2 => bytes = part_at 4 2 (areas counted from one)
pub held_object : told (held_in units 0xF100)
    ≡ object (Ok (Object (record {
      mpu_sequence_number = 7;
      rap = false;
      mfu = Some (record { movie_fragment_sequence_number = 0; sample_number = 0; offset = 0; priority = 0; dependency_counter = 0 });
      item_id = None;
      bytes = part_at 2 2;
    })))
unfolding told
held_object = refl

-- Session::held, of an id that was never seen
-- wrong: NoId => NoObject (an id that holds nothing)
-- wrong: NoId => Object (record { mpu_sequence_number = 0; rap = false; mfu = None; item_id = None; bytes = part_at 0 0 }) (an empty object)
pub held_unknown : told (held_in units 0xF102) ≡ object (Ok NoId)
unfolding told
held_unknown = refl

-- Session::control, of an id whose message is being joined
-- wrong: joined = Some 2 => joined = None (nothing joined)
-- wrong: joined = Some 2 => joined = Some 4 (with the two bytes before the message)
pub control_state : told (control_in (after (first_part 5 ab ∷ [])) 0x8001) ≡ control (Ok (Some (record { sequence = Some 5; joined = Some 2 })))
unfolding told
control_state = refl

-- Session::section
-- wrong: these nit1 => these nit_next (another key's)
-- wrong: these nit1 => nothing (none always)
pub section : told (section_in nits 0x40000400) ≡ table (these nit1)
unfolding told
section = refl

-- Session::section, of a key that was never kept
-- wrong: nothing => refused 5 (turned down)
-- wrong: nothing => these [] (an empty table)
pub section_none : told (section_in nits 0x40000402) ≡ table nothing
unfolding told
section_none = refl

-- Session::section, of one whose bytes no longer parse
-- wrong: refused 5 => nothing (none)
-- wrong: refused 5 => these [] (an empty table)
pub section_damaged : told (section_in (damaged nits) 0x40000400) ≡ table (refused 5)
unfolding told
section_damaged = refl

-- Session::mpt: that of the control id
-- wrong: these mpt => these asset_mpt (the first that was kept)
-- wrong: these mpt => nothing (none)
pub mpt_of_id : told (mpt_in mpts 0x8000) ≡ table (these mpt)
unfolding told
mpt_of_id = refl

-- Session::plt
-- wrong: these plt => these (plt ++ (0xFF ∷ 0xFF ∷ [])) (with the bytes behind it in its message)
-- wrong: these plt => nothing (none)
pub latest_plt : told (plt_in (after (fragment 0x00 (table_message 6 plt) ∷ []))) ≡ table (these plt)
unfolding told
latest_plt = refl

-- Session::tot
-- wrong: these tot => these (tot ++ (0xFF ∷ 0xFF ∷ [])) (with the bytes behind it in its message)
-- wrong: these tot => nothing (none)
pub latest_tot : told (tot_in (after (fragment 0x00 (table_message 14 tot) ∷ []))) ≡ table (these tot)
unfolding told
latest_tot = refl

-- Session::asset_of: an MPT without the packet id is passed over
-- wrong: control_id = 0x8001 => control_id = 0x8000 (the MPT of the least control id)
-- wrong: service_id = Some 0x0065 => service_id = None (no service)
pub asset_of_lem : told (asset_in mpts 0xF100)
    ≡ asset (Ok (Some (record {
      control_id = 0x8001;
      mpt = part_at 64 29;
      service_id = Some 0x0065;
      asset =
          record {
            identifier_type = 0;
            asset_id_scheme = 0;
            asset_id = part_at 17 1;
            asset_type = 0x68657631;
            clock_relation = false;
            locations = 1;
            locations_start = 24;
            descriptors = part_at 29 0;
          };
    })))
unfolding told
asset_of_lem = refl
