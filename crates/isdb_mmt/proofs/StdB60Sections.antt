-- What a sender that conforms to ARIB STD-B60 writes of the tables in section form is read right. Assumes nothing.
use Rattle.std.proofs.Common.{◌≡◌, ℕ, ◌+◌, ◌-◌, ◌/◌, ◌%◌, ◌^◌, ◌<◌, true, List, [], ◌∷◌, ◌++◌, map, length, get_or, refl, ◌∙◌, ap₂, add-zero, arith, length-append, le-ltb, le-leb}
use lib.ListN.{length-map}
use borrow.Author.Tests.{lt-leb}
use Rattle.isdb_tlv.specs.Bytes.{be}
use Rattle.isdb_tlv.specs.Fields.{written}
use Rattle.isdb_tlv.proofs.Fields.{be_one, size, field_at, offset_of, length_written}
use Rattle.isdb_mmt.specs.Formats.Part.{part_at, part_of}
use Rattle.isdb_mmt.specs.Formats.Desc.{broken, Loop}
use Rattle.isdb_mmt.specs.Formats.Section.{entry_at, entries_from}
use Rattle.isdb_mmt.specs.Formats.Eit.{eit_of, eit_body, event_of, events_of}
use Rattle.isdb_mmt.specs.Formats.Sdt.{sdt_of, sdt_body, service_of, services_of}
use Rattle.isdb_mmt.specs.Formats.Bit.{bit_of, bit_body, broadcaster_of, broadcasters_of}
use Rattle.isdb_mmt.specs.Formats.Nit.{nit_of, nit_body, stream_of, streams_of}
use Rattle.isdb_mmt.specs.Standards.StdB60.{loop_sent}
use Rattle.isdb_mmt.specs.Standards.StdB60Sections.{Entry as SentEntry, entry_sent, entries_sent, EntryConforming, All}
use Rattle.isdb_mmt.specs.Standards.StdB60Sections.{SentEvent, event_entry, EventConforming, eit_fields, eit_body_sent, event_seen, event_value, EitTheorem}
use Rattle.isdb_mmt.specs.Standards.StdB60Sections.{SentService, service_entry, ServiceConforming, sdt_fields, sdt_body_sent, service_seen, service_value, SdtTheorem}
use Rattle.isdb_mmt.specs.Standards.StdB60Sections.{SentBroadcaster, broadcaster_entry, BroadcasterConforming, SentBit, bit_fields, bit_body_sent, BitConforming, broadcaster_seen, broadcaster_value, BitTheorem}
use Rattle.isdb_mmt.specs.Standards.StdB60Sections.{SentStream, stream_entry, StreamConforming, SentNit, nit_streams, nit_body_sent, NitConforming, stream_seen, stream_value, NitTheorem}
use Rattle.isdb_mmt.specs.declared.table.section.Entry.{Entry}
use Rattle.isdb_mmt.specs.declared.walk_step.WalkStep.TheVariants.{End, Entry as entry}
use Rattle.isdb_mmt.proofs.Entries.{entries_at}
use Rattle.isdb_mmt.proofs.StdB60.{length_field, length_read, upper_read, loop_whole, sections}
use Rattle.isdb_mmt.proofs.BytesAt.{FoundAt, located_first, located_last, last_ends, located_part, located_within, located_front, located_rest, field_read, high_byte}

-- an entry that was read is one that was sent: it stands there, and its descriptors are the sender's
pub record Holds (s : List ℕ) (e : SentEntry) (x : Entry) : Type 0 where
  pub sent : FoundAt s x.at (entry_sent e)
  pub loop : part_of s x.descriptors ≡ e.loop

-- an entry that stands at `at`, of `k` bytes of fields
module _ {s : List ℕ} {at : ℕ} (k : ℕ) (e : SentEntry) (c : EntryConforming e) (n : size e.fields ≡ k) (h : FoundAt s at (entry_sent e)) where
  head_located : FoundAt s at (written e.fields ++ written (length_field e.upper (length e.loop)))
  head_located = located_front (written e.fields ++ written (length_field e.upper (length e.loop))) e.loop h

  word_located : FoundAt s (at + k) (written (length_field e.upper (length e.loop)))
  word_located = located_rest (written e.fields) (written (length_field e.upper (length e.loop))) head_located (length_written e.fields ∙ n)

  head_length : length (written e.fields ++ written (length_field e.upper (length e.loop))) ≡ k + 2
  head_length = rw (length-append, length_written e.fields, length_written (length_field e.upper (length e.loop)), n)

  loop_located : FoundAt s (at + k + 2) e.loop
  loop_located =
      let place : at + (k + 2) ≡ at + k + 2 = omega arith in
      rw place at (located_rest (written e.fields ++ written (length_field e.upper (length e.loop))) e.loop h head_length)

  -- a field of it
  pub entry_field : (j : ℕ) → be (field_at j e.fields).width s (at + offset_of j e.fields) ≡ (field_at j e.fields).value
  entry_field = field_read e.fields c.fields (located_front (written e.fields) (written (length_field e.upper (length e.loop))) head_located)

  -- the byte behind its fields has the four bits
  pub entry_upper : get_or s (at + k) 0 / 16 ≡ e.upper
  entry_upper = upper_read e.upper (length e.loop) c.upper c.loop word_located

  entry_step : entry_at s k at ≡ entry (record { at = at; descriptors = part_at (at + k + 2) (length e.loop) }) (at + length (entry_sent e))
  unfolding entry_at
  entry_step =
      let m = length e.loop in
      let long = located_within (entry_sent e) h in
      let whole : length (entry_sent e) ≡ k + 2 + m = rw (length-append, head_length) in
      let len = length_read e.upper m c.upper c.loop word_located in
      let next : at + length (entry_sent e) ≡ at + k + 2 + m = omega arith in
      rw (lt-leb (length s) at (omega arith), le-ltb (length s - at) (k + 2) (omega arith), len)
      (rw (le-ltb (length s - (at + k + 2)) m (omega arith), next))

-- one for each
abbrev pub Each : {A B : Type 0} → (A → B → Type 0) → List A → List B → Type 0
Each R [] [] = Unit {0}
Each R [] (y ∷ ys) = ⊥
Each R (x ∷ xs) [] = ⊥
Each R (x ∷ xs) (y ∷ ys) = R x y × Each R xs ys

abbrev pub breaks_of : List SentEntry → ℕ
breaks_of [] = 0
breaks_of (e ∷ es) = broken e.loop + breaks_of es

-- what the walk over entries finds
pub record EntriesAt (s : List ℕ) (es : List SentEntry) (l : Loop Entry) : Type 0 where
  pub found : Each (Holds s) es l.found
  pub breaks : l.breaks ≡ breaks_of es
  pub whole : l.whole ≡ true

-- an entry of `k` bytes of fields
pub record Sized (k : ℕ) (e : SentEntry) : Type 0 where
  pub conforming : EntryConforming e
  pub size : size e.fields ≡ k

pub entries_read : (s : List ℕ) (k at : ℕ) (es : List SentEntry) → All (Sized k) es → FoundAt s at (entries_sent es)
    → at + length (entries_sent es) ≡ length s → EntriesAt s es (entries_from s k at)
unfolding entry_at
entries_read s k at [] c h n =
    let end : entry_at s k at ≡ End = rw (le-leb (length s) at (omega arith)) in
    rw (entries_at s k at, end) (record { found = tt; breaks = refl; whole = refl })
entries_read s k at (e ∷ es) c h n =
    let here = located_front (entry_sent e) (entries_sent es) h in
    let r = entries_read s k (at + length (entry_sent e)) es c.1 (located_rest (entry_sent e) (entries_sent es) h refl)
    (omega (arith, length-append (entry_sent e) (entries_sent es))) in
    let loop = located_part e.loop (loop_located k e c.0.conforming c.0.size here) in
    rw (entries_at s k at, entry_step k e c.0.conforming c.0.size here)
    (record { found = (record { sent = here; loop = loop }, r.found); breaks = rw (loop, r.breaks); whole = r.whole })

each_length : {A B : Type 0} (R : A → B → Type 0) (xs : List A) (ys : List B) → Each R xs ys → length ys ≡ length xs
each_length R [] [] h = refl
each_length R [] (y ∷ ys) h = elim h [ ]
each_length R (x ∷ xs) [] h = elim h [ ]
each_length R (x ∷ xs) (y ∷ ys) h = rw (each_length R xs ys h.1)

-- a kind of things that a table tells of, with `k` bytes of fields for each: one that conforms is sent as an entry, and what is
-- seen of that entry is the sender's value
pub record Kind {A B W : Type 0} (k : ℕ) (conforms : A → Type 0) (sends : A → SentEntry) (value : A → W)
    (of : List ℕ → Entry → B) (seen : List ℕ → B → W) : Type 0 where
  pub sized : (x : A) → conforms x → Sized k (sends x)
  pub told : (s : List ℕ) (x : A) → conforms x → (y : Entry) → Holds s (sends x) y → seen s (of s y) ≡ value x

-- what the walk finds of things of a kind
pub record ThingsAt {A B W : Type 0} (sends : A → SentEntry) (value : A → W) (of : Entry → B) (seen : B → W) (xs : List A) (l : Loop Entry)
    : Type 0 where
  pub values : map seen (map of l.found) ≡ map value xs
  pub count : length l.found ≡ length xs
  pub breaks : l.breaks ≡ breaks_of (map sends xs)
  pub whole : l.whole ≡ true

module _ {A B W : Type 0} {k : ℕ} {conforms : A → Type 0} {sends : A → SentEntry} {value : A → W}
    {of : List ℕ → Entry → B} {seen : List ℕ → B → W} (kind : Kind k conforms sends value of seen) where
  all_sized : (xs : List A) → All conforms xs → All (Sized k) (map sends xs)
  all_sized [] h = tt
  all_sized (x ∷ xs) h = (kind.sized x h.0, all_sized xs h.1)

  all_told : (s : List ℕ) (xs : List A) → All conforms xs → (ys : List Entry) → Each (Holds s) (map sends xs) ys
      → map (seen s) (map (of s) ys) ≡ map value xs
  all_told s [] h [] g = refl
  all_told s [] h (y ∷ ys) g = elim g [ ]
  all_told s (x ∷ xs) h [] g = elim g [ ]
  all_told s (x ∷ xs) h (y ∷ ys) g = ap₂ ◌∷◌ (kind.told s x h.0 y g.0) (all_told s xs h.1 ys g.1)

  -- behind other bytes, and to the end
  pub things_at : (a : List ℕ) (xs : List A) → All conforms xs → {n : ℕ} → length a ≡ n
      → ThingsAt sends value (of (a ++ entries_sent (map sends xs))) (seen (a ++ entries_sent (map sends xs))) xs
      (entries_from (a ++ entries_sent (map sends xs)) k n)
  things_at a xs h {n} e =
      let r = entries_sent (map sends xs) in
      let w = entries_read (a ++ r) k n (map sends xs) (all_sized xs h) (located_last a r e) (last_ends a r e) in
      record {
        values = all_told (a ++ r) xs h _ w.found;
        count = each_length (Holds (a ++ r)) (map sends xs) _ w.found ∙ length-map xs sends;
        breaks = w.breaks;
        whole = w.whole;
      }

-- where each has a loop of descriptors of 7.4, nothing breaks
pub unbroken : {A : Type 0} (conforms : A → Type 0) (sends : A → SentEntry) → ((x : A) → conforms x → broken (sends x).loop ≡ 0)
    → (xs : List A) → All conforms xs → breaks_of (map sends xs) ≡ 0
unbroken conforms sends w [] h = refl
unbroken conforms sends w (x ∷ xs) h = rw (w x h.0, unbroken conforms sends w xs h.1)

-- MH-EIT
event_sized : (x : SentEvent) → EventConforming x → Sized 10 (event_entry x)
event_sized x c = record { conforming = record { fields = omega arith; upper = omega arith; loop = c.loop }; size = refl }

event_told_lem : (s : List ℕ) (x : SentEvent) → EventConforming x → (y : Entry) → Holds s (event_entry x) y → event_seen s (event_of s y) ≡ event_value x
event_told_lem s x c y h =
    let e = (event_sized x c).conforming in
    let of = entry_field 10 (event_entry x) e refl h.sent in
    let upper = entry_upper 10 (event_entry x) e refl h.sent in
    let running : get_or s (y.at + 10) 0 / 32 ≡ x.running_status = omega arith in
    let free : get_or s (y.at + 10) 0 / 16 % 2 ≡ x.free_ca = omega arith in
    rw (rw add-zero at (of 0), of 1, of 2, running, free, h.loop)

event_kind : Kind 10 EventConforming event_entry event_value event_of event_seen
event_kind = record { sized = event_sized; told = event_told_lem }

pub eit : EitTheorem
unfolding eit_of eit_body events_of
eit t c =
    let s = eit_body_sent t in
    let r = sections t.header c.header s c.short in
    let l = things_at event_kind (written (eit_fields t)) t.events c.events (length_written (eit_fields t)) in
    let of = field_read (eit_fields t) c.fields (located_first (written (eit_fields t)) (entries_sent (map event_entry t.events))) in
    let long = length-append (written (eit_fields t)) (entries_sent (map event_entry t.events)) in
    let whole = unbroken EventConforming event_entry (λ x d. loop_whole x.descriptors d.descriptors) t.events c.events in
    record {
      section =
          rw (r.header, r.content, le-ltb (length s) 6 (omega (arith, length_written (eit_fields t))))
          (rw (l.whole, l.breaks, l.count, whole, be_one s 4, be_one s 5, of 0, of 1, of 2, of 3));
      events = l.values;
    }

-- MH-SDT
service_sized : (x : SentService) → ServiceConforming x → Sized 3 (service_entry x)
service_sized x c = record { conforming = record { fields = omega arith; upper = omega arith; loop = c.loop }; size = refl }

service_told_lem : (s : List ℕ) (x : SentService) → ServiceConforming x → (y : Entry) → Holds s (service_entry x) y
    → service_seen s (service_of s y) ≡ service_value x
service_told_lem s x c y h =
    let e = (service_sized x c).conforming in
    let of = entry_field 3 (service_entry x) e refl h.sent in
    let upper = entry_upper 3 (service_entry x) e refl h.sent in
    let flags = be_one s (y.at + 2) ∙ of 1 in
    let user : get_or s (y.at + 2) 0 / 4 % 8 ≡ x.user_defined_flags = omega arith in
    let schedule : get_or s (y.at + 2) 0 / 2 % 2 ≡ x.schedule = omega arith in
    let following : get_or s (y.at + 2) 0 % 2 ≡ x.present_following = omega arith in
    let running : get_or s (y.at + 3) 0 / 32 ≡ x.running_status = omega arith in
    let free : get_or s (y.at + 3) 0 / 16 % 2 ≡ x.free_ca = omega arith in
    rw (rw add-zero at (of 0), user, schedule, following, running, free, h.loop)

service_kind : Kind 3 ServiceConforming service_entry service_value service_of service_seen
service_kind = record { sized = service_sized; told = service_told_lem }

pub sdt : SdtTheorem
unfolding sdt_of sdt_body services_of
sdt t c =
    let s = sdt_body_sent t in
    let r = sections t.header c.header s c.short in
    let l = things_at service_kind (written (sdt_fields t)) t.services c.services (length_written (sdt_fields t)) in
    let of = field_read (sdt_fields t) c.fields (located_first (written (sdt_fields t)) (entries_sent (map service_entry t.services))) in
    let long = length-append (written (sdt_fields t)) (entries_sent (map service_entry t.services)) in
    let whole = unbroken ServiceConforming service_entry (λ x d. loop_whole x.descriptors d.descriptors) t.services c.services in
    record {
      section =
          rw (r.header, r.content, le-ltb (length s) 2 (omega (arith, length_written (sdt_fields t))))
          (rw (l.whole, l.breaks, l.count, whole, of 0));
      services = l.values;
    }

-- MH-BIT
broadcaster_sized : (x : SentBroadcaster) → BroadcasterConforming x → Sized 1 (broadcaster_entry x)
broadcaster_sized x c = record { conforming = record { fields = omega arith; upper = c.reserved; loop = c.loop }; size = refl }

broadcaster_told_lem : (s : List ℕ) (x : SentBroadcaster) → BroadcasterConforming x → (y : Entry) → Holds s (broadcaster_entry x) y
    → broadcaster_seen s (broadcaster_of s y) ≡ broadcaster_value x
broadcaster_told_lem s x c y h =
    let of = entry_field 1 (broadcaster_entry x) (broadcaster_sized x c).conforming refl h.sent in
    rw (be_one s y.at, rw add-zero at (of 0), h.loop)

broadcaster_kind : Kind 1 BroadcasterConforming broadcaster_entry broadcaster_value broadcaster_of broadcaster_seen
broadcaster_kind = record { sized = broadcaster_sized; told = broadcaster_told_lem }

module _ (t : SentBit) (c : BitConforming t) where
  abbrev bit_front_lem : List ℕ
  bit_front_lem = written (bit_fields t) ++ loop_sent t.descriptors

  bit_front : length bit_front_lem ≡ length (loop_sent t.descriptors) + 2
  bit_front = rw (length-append, length_written (bit_fields t)) (omega arith)

  bit_long : length (bit_body_sent t) ≡ length (loop_sent t.descriptors) + 2 + length (entries_sent (map broadcaster_entry t.broadcasters))
  bit_long = rw (length-append, bit_front)

  front_located : FoundAt (bit_body_sent t) 0 bit_front_lem
  front_located = located_first bit_front_lem (entries_sent (map broadcaster_entry t.broadcasters))

  fields_located : FoundAt (bit_body_sent t) 0 (written (bit_fields t))
  fields_located = located_front (written (bit_fields t)) (loop_sent t.descriptors) front_located

  bit_fits : (field_at 0 (bit_fields t)).value < 2 ^ 16
  bit_fits = omega (arith, bit_long, c.reserved, c.view_propriety, c.short)

  bit_loop_lem : part_of (bit_body_sent t) (part_at 2 (length (loop_sent t.descriptors))) ≡ loop_sent t.descriptors
  bit_loop_lem =
      located_part (loop_sent t.descriptors)
      (located_rest (written (bit_fields t)) (loop_sent t.descriptors) front_located (length_written (bit_fields t)))

pub bit : BitTheorem
unfolding bit_of bit_body broadcasters_of
bit t c =
    let s = bit_body_sent t in
    let n = length (loop_sent t.descriptors) in
    let r = sections t.header c.header s c.short in
    let l = things_at broadcaster_kind (bit_front_lem t c) t.broadcasters c.broadcasters (bit_front t c) in
    let word = field_read (bit_fields t) (bit_fits t c, tt) (fields_located t c) 0 in
    let long = bit_long t c in
    let len : be 2 s 0 % 4096 ≡ n = rw word (omega (arith, c.short)) in
    let high = high_byte (field_at 0 (bit_fields t)).value (bit_fits t c) (fields_located t c) in
    let view : get_or s 0 0 / 16 % 2 ≡ t.view_propriety = rw high (omega (arith, c.reserved, c.view_propriety, c.short)) in
    let whole =
    unbroken BroadcasterConforming broadcaster_entry (λ x d. loop_whole x.descriptors d.descriptors) t.broadcasters c.broadcasters in
    record {
      section =
          rw (r.header, r.content, le-ltb (length s) 2 (omega arith), len)
          (rw (le-ltb (length s) (n + 2) (omega arith), view, bit_loop_lem t c, loop_whole t.descriptors c.descriptors)
          (rw (l.whole, l.breaks, l.count, whole)));
      descriptors = bit_loop_lem t c;
      broadcasters = rw len l.values;
    }

-- TLV-NIT
stream_sized : (x : SentStream) → StreamConforming x → Sized 4 (stream_entry x)
stream_sized x c = record { conforming = record { fields = omega arith; upper = c.reserved; loop = c.loop }; size = refl }

stream_told_lem : (s : List ℕ) (x : SentStream) → StreamConforming x → (y : Entry) → Holds s (stream_entry x) y
    → stream_seen s (stream_of s y) ≡ stream_value x
stream_told_lem s x c y h =
    let of = entry_field 4 (stream_entry x) (stream_sized x c).conforming refl h.sent in
    rw (rw add-zero at (of 0), of 1, h.loop)

stream_kind : Kind 4 StreamConforming stream_entry stream_value stream_of stream_seen
stream_kind = record { sized = stream_sized; told = stream_told_lem }

module _ (t : SentNit) (c : NitConforming t) where
  abbrev nit_head : List ℕ
  nit_head = written (length_field t.reserved (length t.descriptors))

  abbrev nit_rest : List ℕ
  nit_rest = written (length_field t.reserved2 (length (nit_streams t))) ++ nit_streams t

  nit_front : length (nit_head ++ t.descriptors) ≡ length t.descriptors + 2
  nit_front = rw (length-append, length_written (length_field t.reserved (length t.descriptors))) (omega arith)

  nit_long : length (nit_body_sent t) ≡ length t.descriptors + 4 + length (nit_streams t)
  nit_long =
      rw (length-append, nit_front, length-append, length_written (length_field t.reserved2 (length (nit_streams t)))) (omega arith)

  nit_first : FoundAt (nit_body_sent t) 0 (nit_head ++ t.descriptors)
  nit_first = located_first (nit_head ++ t.descriptors) nit_rest

  nit_last : FoundAt (nit_body_sent t) (length t.descriptors + 2) nit_rest
  nit_last = located_last (nit_head ++ t.descriptors) nit_rest nit_front

  nit_descriptors : FoundAt (nit_body_sent t) 2 t.descriptors
  nit_descriptors =
      located_rest nit_head t.descriptors nit_first (length_written (length_field t.reserved (length t.descriptors)))

  nit_streams_lem : FoundAt (nit_body_sent t) (length t.descriptors + 4) (nit_streams t)
  nit_streams_lem =
      let e : length t.descriptors + 2 + 2 ≡ length t.descriptors + 4 = omega arith in
      rw e at (located_rest (written (length_field t.reserved2 (length (nit_streams t)))) (nit_streams t) nit_last
      (length_written (length_field t.reserved2 (length (nit_streams t)))))

pub nit : NitTheorem
unfolding nit_of nit_body streams_of
nit t c =
    let s = nit_body_sent t in
    let n = length t.descriptors in
    let m = length (nit_streams t) in
    let r = sections t.header c.header s c.short in
    let l = things_at stream_kind [] t.streams c.streams refl in
    let long = nit_long t c in
    let first = length_read t.reserved n c.reserved (omega (arith, c.short)) (located_front (nit_head t c) t.descriptors (nit_first t c)) in
    let second =
    length_read t.reserved2 m c.reserved2 (omega (arith, c.short))
    (located_front (written (length_field t.reserved2 m)) (nit_streams t) (nit_last t c)) in
    let loop = located_part (nit_streams t) (nit_streams_lem t c) in
    record {
      section =
          rw (r.header, r.content, le-ltb (length s) 2 (omega arith), first)
          (rw (le-ltb (length s) (n + 4) (omega arith), second)
          (rw (le-ltb (length s - (n + 4)) m (omega arith), loop, l.whole, l.count)));
      descriptors = located_part t.descriptors (nit_descriptors t c);
      loop = loop;
      streams = l.values;
    }
