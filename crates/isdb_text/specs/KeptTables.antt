-- The kept tables of a session one after the other, and the orders in which the programs write them.
use Rattle.std.specs.Prelude.{ℕ, ◌+◌, Option, Some, None, Result, Ok, Err}
use Rattle.isdb_mmt.specs.declared.decoder.refusal.Refusal.{Refusal}
use Rattle.isdb_tlv.specs.Guards.{◌<?◌, ◌=?◌}
use Rattle.std.specs.Prelude.{if◌then◌else◌}
use Rattle.isdb_mmt.specs.Memory.Session.{Session}
use Rattle.isdb_mmt.specs.Answers.Readings.{most_name, next_control_read, next_key_read, mpt_read, plt_read, section_read, tot_read}
use Rattle.isdb_text.specs.declared.kept_tables.Table.TheVariants.{Mpt, Plt, Section, Tot}
use Rattle.isdb_text.specs.declared.kept_tables.Ahead.{Ahead}
use Rattle.isdb_text.specs.declared.kept_tables.Ahead.TheVariants.{Nothing, Mpts, Plt as the_plt, Sections, Tot as the_tot}
use Rattle.isdb_text.specs.declared.kept_tables.Kept.{Kept}

-- what is left above a control id, and above a key up to the last
abbrev pub mpts_above : ℕ → Ahead
mpts_above id = if id <? most_name then Mpts (id + 1) else Nothing

abbrev pub sections_above : ℕ → ℕ → Ahead
sections_above key last = if key <? last then Sections (key + 1) last else Nothing

-- the table of the least name, and those above it
abbrev pub mpt_step : Session → Result (Option ℕ) Refusal → Option Kept
mpt_step s (Ok (Some id)) = Some (record { table = Mpt id; reading = mpt_read s id; next = mpts_above id })
mpt_step s (Ok None) = None
mpt_step s (Err e) = None

abbrev pub section_step : Session → ℕ → Result (Option ℕ) Refusal → Option Kept
section_step s last (Ok (Some key)) = Some (record { table = Section key; reading = section_read s key; next = sections_above key last })
section_step s last (Ok None) = None
section_step s last (Err e) = None

-- the next of the tables that a walk has before it, with what is read of it
unfoldable pub kept_step : Session → Ahead → Option Kept
kept_step s Nothing = None
kept_step s (Mpts from) = mpt_step s (next_control_read s from)
kept_step s the_plt = Some (record { table = Plt; reading = plt_read s; next = Nothing })
kept_step s (Sections first last) = section_step s last (next_key_read s first last)
kept_step s the_tot = Some (record { table = Tot; reading = tot_read s; next = Nothing })

-- the walks of `feeddump`, by the table ids of the sections: EIT, SDT, BIT, NIT, AMT
unfoldable pub dump_order : ℕ → Ahead
dump_order i =
    if i =? 0 then Mpts 0
    else if i =? 1 then the_plt
    else if i =? 2 then Sections 0x8B000000 0x9BFFFFFF
    else if i =? 3 then Sections 0x9F000000 0xA0FFFFFF
    else if i =? 4 then Sections 0x9D000000 0x9DFFFFFF
    else if i =? 5 then Sections 0x40000000 0x41FFFFFF
    else if i =? 6 then Sections 0xFE000000 0xFEFFFFFF
    else if i =? 7 then the_tot
    else Nothing

-- those of `replay`: the sections of all table ids in one
unfoldable pub replay_order : ℕ → Ahead
replay_order i =
    if i =? 0 then Mpts 0
    else if i =? 1 then the_plt
    else if i =? 2 then the_tot
    else if i =? 3 then Sections 0 most_name
    else Nothing
