-- What the session is held against, drawn from the accepted packets alone: nothing here mentions a state. Of a media id: its
-- reception log, its book (the term of the scope), the objects begun, and the stretches of the log that delivered objects are. Of a key: its
-- well-formed sections, and the first of the last run of equal version.
use Rattle.std.specs.Prelude.{◌≡◌, ℕ, ◌+◌, ◌-◌, ◌%◌, min, Bool, true, false, not, ◌&&◌, ◌≢◌, List, [], ◌∷◌, ◌++◌, map, length, Option, None, Some}
use Rattle.isdb_tlv.specs.Guards.{◌≤?◌, ◌=?◌}
use Rattle.std.specs.Prelude.{if◌then◌else◌}
use Rattle.isdb_mmt.specs.Decoder.Packet.{Bytes, PayloadUnit, Packet, ip_error, ntp, non_mmtp_of, media, message, control, other, readable}
use Rattle.isdb_mmt.specs.Decoder.Objects.{Rec}
use Rattle.isdb_mmt.specs.Decoder.Reassembly.{Reassembly, idle, reassembly_after}
use Rattle.isdb_mmt.specs.Decoder.Kept.{Section, section_of, Table, a_section, empty_table, mpt_table, plt_table, tot_table, truncated_section, other_table}
use Rattle.isdb_mmt.specs.Decoder.GivenTables.{tables_given}
use Rattle.isdb_mmt.specs.declared.mpu.FragmentationIndicator.{FragmentationIndicator}
use Rattle.isdb_mmt.specs.declared.mpu.FragmentationIndicator.TheVariants.{Complete, Head, Middle, Last}

-- an id's reception log: for each of its MPU-type packets the number, then the units of its readable clear payload under that number
pub data LogEntry : Type 0 where
  packet_number : ℕ → LogEntry
  unit_received : ℕ → FragmentationIndicator → Bytes → LogEntry

unfoldable pub units_received : ℕ → List PayloadUnit → List LogEntry
units_received n [] = []
units_received n (u ∷ us) = unit_received n u.fragment u.bytes ∷ units_received n us

unfoldable pub log_entries : ℕ → Packet → List LogEntry
unfolding units_received
log_entries i ip_error = []
log_entries i (ntp t) = []
log_entries i non_mmtp_of = []
log_entries i (media m) = if i =? m.id then packet_number m.number ∷ units_received m.number (readable m) else []
log_entries i (message c) = []
log_entries i (control bs) = []
log_entries i other = []

unfoldable pub reception_log : ℕ → List Packet → List LogEntry
unfolding log_entries
reception_log i [] = []
reception_log i (p ∷ ps) = log_entries i p ++ reception_log i ps

-- the book: its own words for the number behind another and for the largest object
unfoldable pub follower : ℕ → ℕ
follower n = (n + 1) % 4294967296

abbrev pub limit : ℕ
limit = 16777216

pub record Book : Type 0 where
  pub number : Option ℕ
  pub held : Option Bytes
  pub dropped : ℕ
  pub lost : ℕ
  pub delivered : List Bytes

-- nothing held, no number, counts 0
unfoldable pub nothing : Book
nothing = record { number = None; held = None; dropped = 0; lost = 0; delivered = [] }

-- the count of drops, where what is held is dropped
unfoldable pub drop_counted : Option Bytes → ℕ → ℕ
drop_counted None k = k
drop_counted (Some h) k = k + 1

unfoldable pub in_order_of : Option ℕ → ℕ → Bool
in_order_of None n = true
in_order_of (Some l) n = n =? follower l

-- the gap rule: (new - old - 1) modulo 2^32, at most 1,048,576; nothing where the number follows or is the first
unfoldable pub missing : Option ℕ → ℕ → ℕ
missing None n = 0
missing (Some l) n = if n =? follower l then 0 else min ((n + 8589934592 - l - 1) % 4294967296) 1048576

-- a continuing unit with data `d`; `e` says whether it is a Last
unfoldable pub continued_by : Book → Bool → Bytes → Option Bytes → Book
continued_by b e d None = b
continued_by b e d (Some h) =
    if length h + length d ≤? limit
    then (if e
    then record { number = b.number; held = None; dropped = b.dropped; lost = b.lost; delivered = b.delivered ++ ((h ++ d) ∷ []) }
    else record { number = b.number; held = Some (h ++ d); dropped = b.dropped; lost = b.lost; delivered = b.delivered })
    else record { number = b.number; held = None; dropped = b.dropped + 1; lost = b.lost; delivered = b.delivered }

unfoldable pub entered : Book → LogEntry → Book
unfolding drop_counted in_order_of missing continued_by
entered b (packet_number n) =
    if in_order_of b.number n
    then record { number = Some n; held = b.held; dropped = b.dropped; lost = b.lost + missing b.number n; delivered = b.delivered }
    else record { number = Some n; held = None; dropped = drop_counted b.held b.dropped; lost = b.lost + missing b.number n; delivered = b.delivered }
entered b (unit_received n Complete d) =
    record { number = b.number; held = None; dropped = drop_counted b.held b.dropped; lost = b.lost; delivered = b.delivered ++ (d ∷ []) }
entered b (unit_received n Head d) =
    record { number = b.number; held = Some d; dropped = drop_counted b.held b.dropped; lost = b.lost; delivered = b.delivered }
entered b (unit_received n Middle d) = continued_by b false d b.held
entered b (unit_received n Last d) = continued_by b true d b.held

unfoldable pub entered_all : Book → List LogEntry → Book
unfolding entered
entered_all b [] = b
entered_all b (x ∷ xs) = entered_all (entered b x) xs

unfoldable pub book : ℕ → List Packet → Book
unfolding nothing entered_all reception_log
book i ps = entered_all nothing (reception_log i ps)

unfoldable pub is_held : Option Bytes → ℕ
is_held None = 0
is_held (Some h) = 1

-- objects begun, counted off the packets
unfoldable pub begins : FragmentationIndicator → ℕ
begins Complete = 1
begins Head = 1
begins Middle = 0
begins Last = 0

unfoldable pub begun_in : List PayloadUnit → ℕ
unfolding begins
begun_in [] = 0
begun_in (u ∷ us) = begins u.fragment + begun_in us

unfoldable pub begun_by : ℕ → Packet → ℕ
unfolding begun_in
begun_by i ip_error = 0
begun_by i (ntp t) = 0
begun_by i non_mmtp_of = 0
begun_by i (media m) = if i =? m.id then begun_in (readable m) else 0
begun_by i (message c) = 0
begun_by i (control bs) = 0
begun_by i other = 0

unfoldable pub begun : ℕ → List Packet → ℕ
unfolding begun_by
begun i [] = 0
begun i (p ∷ ps) = begun_by i p + begun i ps

-- the data of an id's records that are no scrambled payloads
unfoldable pub delivered_of : ℕ → List Rec → List Bytes
delivered_of i [] = []
delivered_of i (r ∷ rs) = if (i =? r.id) && not r.scrambled then r.mfu.bytes ∷ delivered_of i rs else delivered_of i rs

-- on from number `n`: each packet's number follows the one before, and every unit is a Middle; the last number is `m`
abbrev pub Unbroken : ℕ → List LogEntry → ℕ → Type 0
Unbroken n [] m = n ≡ m
Unbroken n (packet_number k ∷ t) m = (k ≡ follower n) × Unbroken k t m
Unbroken n (unit_received k Complete d ∷ t) m = ⊥
Unbroken n (unit_received k Head d ∷ t) m = ⊥
Unbroken n (unit_received k Middle d ∷ t) m = Unbroken n t m
Unbroken n (unit_received k Last d ∷ t) m = ⊥

-- the data of the units of a stretch of the log, joined
unfoldable pub joined : List LogEntry → Bytes
joined [] = []
joined (packet_number k ∷ t) = joined t
joined (unit_received k f d ∷ t) = d ++ joined t

-- a stretch of the log that is one object: a Complete unit; or a Head, then Middles over numbers without a break, up to a Last
pub data Object : List LogEntry → Type 0 where
  whole : (n : ℕ) (d : Bytes) → Object (unit_received n Complete d ∷ [])
  divided : (n : ℕ) (d : Bytes) (mid : List LogEntry) (m : ℕ) (e : Bytes) → Unbroken n mid m → Object (unit_received n Head d ∷ mid ++ (unit_received m Last e ∷ []))

-- the objects `os` are stretches of the log, in order and apart from one another, each with its stretch's data
pub data MadeOf : List LogEntry → List Bytes → Type 0 where
  done : MadeOf [] []
  skip : (x : LogEntry) {t : List LogEntry} {os : List Bytes} → MadeOf t os → MadeOf (x ∷ t) os
  object : {o t : List LogEntry} {os : List Bytes} → Object o → MadeOf t os → MadeOf (o ++ t) (joined o ∷ os)

-- a key's well-formed sections: header, CRC and body all parse
unfoldable pub well_formed_in : ℕ → List Section → List Section
well_formed_in k [] = []
well_formed_in k (x ∷ xs) = if (k =? x.key) && (x.header_and_crc_good && x.body_ok) then x ∷ well_formed_in k xs else well_formed_in k xs

-- the sections among tables; MPT, PLT and TOT are none
unfoldable pub sections_among : List Table → List Section
sections_among [] = []
sections_among (a_section x ∷ ts) = x ∷ sections_among ts
sections_among (empty_table ∷ ts) = sections_among ts
sections_among (mpt_table ok n b ∷ ts) = sections_among ts
sections_among (plt_table ok b ∷ ts) = sections_among ts
sections_among (tot_table ok c n b ∷ ts) = sections_among ts
sections_among (truncated_section ∷ ts) = sections_among ts
sections_among (other_table id ∷ ts) = sections_among ts

-- the control ids' messages being joined, as a function of the id: nothing of a session's places
abbrev pub Reassemblies : Type 0
Reassemblies = ℕ → Reassembly

-- no control id has a message
unfoldable pub all_idle : Reassemblies
all_idle i = idle

unfoldable pub reassemblies_after : Reassemblies → Packet → Reassemblies
reassemblies_after ls ip_error i = ls i
reassemblies_after ls (ntp t) i = ls i
reassemblies_after ls non_mmtp_of i = ls i
reassemblies_after ls (media m) i = ls i
reassemblies_after ls (message c) i = if i =? c.id then reassembly_after (ls c.id) c else ls i
reassemblies_after ls (control bs) i = ls i
reassemblies_after ls other i = ls i

unfoldable pub sections_from : Reassemblies → Packet → List Section
unfolding sections_among
sections_from ls ip_error = []
sections_from ls (ntp t) = []
sections_from ls non_mmtp_of = []
sections_from ls (media m) = []
sections_from ls (message c) = sections_among (tables_given (ls c.id) c)
sections_from ls (control bs) = map section_of bs
sections_from ls other = []

-- the sections that reach `keep`, in order, drawn from the packets alone
unfoldable pub reaching : Reassemblies → List Packet → List Section
unfolding sections_from reassemblies_after
reaching ls [] = []
reaching ls (p ∷ ps) = sections_from ls p ++ reaching (reassemblies_after ls p) ps

unfoldable pub well_formed : ℕ → List Packet → List Section
unfolding well_formed_in reaching all_idle
well_formed k ps = well_formed_in k (reaching all_idle ps)

-- every one of the sections has version `v`
abbrev pub AllOf : ℕ → List Section → Type 0
AllOf v [] = Unit {0}
AllOf v (x ∷ xs) = (x.version ≡ v) × AllOf v xs

-- the last of the sections, if there is one, has another version than `v`
abbrev pub LastDiffers : ℕ → List Section → Type 0
LastDiffers v [] = Unit {0}
LastDiffers v (x ∷ []) = x.version ≢ v
LastDiffers v (x ∷ y ∷ ys) = LastDiffers v (y ∷ ys)

-- `x` is the first of the last run of equal version in `xs`
pub record FirstOfLastRun (x : Section) (xs : List Section) : Type 0 where
  pub before : List Section
  pub run : List Section
  pub is : xs ≡ before ++ x ∷ run
  pub alike : AllOf x.version run
  pub starts : LastDiffers x.version before
