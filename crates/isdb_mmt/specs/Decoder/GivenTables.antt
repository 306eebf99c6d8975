-- The tables that a packet gives: of a message that it makes whole, and of a control signal.
use Rattle.std.specs.Prelude.{List, map}
use Rattle.isdb_mmt.specs.Decoder.Packet.{Bytes, MessagePacket}
use Rattle.isdb_mmt.specs.Decoder.Reassembly.{Reassembly, message_completed, cut_of_all}
use Rattle.isdb_mmt.specs.Decoder.Kept.{section_of, table_read, Table, a_section}

-- the tables that a message packet makes whole
unfoldable pub tables_given : Reassembly → MessagePacket → List Table
unfolding table_read
tables_given l x = map table_read (cut_of_all (message_completed l x)).tables

-- a control signal's sections are read as sections, whatever is in them: no MPT is among them
abbrev pub control_tables : List Bytes → List Table
control_tables bs = map (λ b. a_section (section_of b)) bs
