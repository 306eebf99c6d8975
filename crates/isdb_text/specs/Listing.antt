-- The list of a session's media ids and counts, as `feedlist` writes it.
use Rattle.std.specs.Prelude.{ℕ, List, [], ◌∷◌, ◌++◌, Option, Some, None, Result, Ok, Err}
use Rattle.isdb_mmt.specs.declared.decoder.refusal.Refusal.{Refusal}
use Rattle.isdb_mmt.specs.declared.decoder.counts.Counters.{Counters}
use Rattle.isdb_mmt.specs.Memory.Refusals.{number_of}
use Rattle.isdb_mmt.specs.Memory.Session.{Session}
use Rattle.isdb_mmt.specs.Answers.Readings.{counters_read, next_media_read, media_read}
use Rattle.isdb_mmt.specs.declared.decoder.readings.MediaState.{MediaState}
use Rattle.isdb_tlv.specs.declared.cut.Stop.{Stop}
use Rattle.isdb_tlv.specs.declared.cut.Stop.TheVariants.{Clean, Bad, Refused}
use Rattle.isdb_text.specs.Text.{ascii}
use Rattle.isdb_text.specs.Fill.{filled}
use Rattle.isdb_text.specs.Ascending.{ascending_text}
use Rattle.isdb_mmt.specs.Formats.Maybe.{given}

abbrev pub heading : List ℕ
heading = ascii "id packets lost scrambled mfus dropped held malformed\n"

unfoldable pub media_line : ℕ → MediaState → List ℕ
media_line id m =
    filled (ascii "# # # # # # # #\n")
    (id ∷ m.stats.packets ∷ m.stats.packets_lost ∷ m.stats.scrambled_packets ∷ m.stats.mfus ∷ m.stats.mfus_dropped
    ∷ given m.held ∷ m.stats.malformed ∷ [])

-- the line of a media id, by what is read of it
abbrev pub media_text : ℕ → Result (Option MediaState) Refusal → List ℕ
media_text id (Ok (Some m)) = media_line id m
media_text id (Ok None) = []
media_text id (Err e) = []

-- of all, in ascending order; a session has at most 64
unfoldable pub media_lines : Session → List ℕ
media_lines s = ascending_text 64 (next_media_read s) (λ id. media_text id (media_read s id)) 0

abbrev pub stop_text : Stop → List ℕ
stop_text Clean = ascii "clean\n"
stop_text (Bad offset) = filled (ascii "bad #\n") (offset ∷ [])
stop_text (Refused number) = filled (ascii "refused #\n") (number ∷ [])

-- the last line: three counts, and where reading stopped; counts that cannot be read are 0, with the number
abbrev pub last_line : Result Counters Refusal → Stop → List ℕ
last_line (Ok c) stop =
    filled (ascii "tlv # ip # other # end ") (c.tlv_packets ∷ c.ip_errors ∷ c.non_mmtp ∷ []) ++ stop_text stop
last_line (Err e) stop = ascii "tlv 0 ip 0 other 0 end " ++ stop_text (Refused (number_of e))

unfoldable pub listing_of : Session → Stop → List ℕ
listing_of s stop = heading ++ (media_lines s ++ last_line (counters_read s) stop)
