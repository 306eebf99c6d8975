-- Laws of an opening: memory that is set to zeros, and what an opened state holds. Assumes nothing.
use Rattle.std.proofs.Common.{◌≡◌, ℕ, zero, suc, ◌+◌, ◌-◌, ◌*◌, ◌≤◌, Bool, true, false, List, ◌++◌, length, get_or, take, drop, replicate, sym, refl, ap, ◌∙◌, append_assoc, zero-le, suc-add, zero-add, arith, length-append, length-take-le, le-leb}
use lib.ListN.{length-replicate}
use Rattle.isdb_tlv.specs.Bytes.{be}
use Rattle.isdb_tlv.specs.Fields.{written, Fit}
use Rattle.isdb_tlv.proofs.Fields.{length_written, be_behind, be_before}
use Rattle.isdb_mmt.specs.Memory.Lent.{over, flag, places_from, names_from, distinct, every, indexed}
use Rattle.isdb_mmt.specs.Memory.Layout.{table_ids, used_place, latest_place, time_place, counters_place, state_size}
use Rattle.isdb_mmt.specs.Memory.Limits.{asked}
use Rattle.isdb_mmt.specs.Memory.Session.{Session, limits_fields, limits_of, used_of, latest_of, time_of, counters_of}
use Rattle.isdb_mmt.specs.Memory.Check.{lengths_of, count_fits_of, sound, sound_in, head_sound, places_sound, names_sound, used_sound, latest_sound, counters_sound, media_in, controls_in, sections_in}
use Rattle.isdb_mmt.specs.Memory.View.{view, view_by, Opening}
use Rattle.isdb_mmt.specs.Decoder.Kept.{zeros as no_counters}
use Rattle.isdb_mmt.specs.Decoder.Model.{opened}
use Rattle.isdb_mmt.specs.Memory.Opening.{lent, opened_state, opened_session, Opened}
use Rattle.isdb_mmt.specs.declared.decoder.limits.Limits.{Limits}
use Rattle.isdb_mmt.specs.declared.decoder.limits.Lengths.{Lengths}
use Rattle.isdb_mmt.specs.declared.decoder.head.Used.{Used}
use Rattle.isdb_mmt.specs.declared.decoder.head.Latest.{Latest}
use Rattle.isdb_mmt.specs.declared.decoder.head.Time.{Time}
use Rattle.isdb_mmt.proofs.Lent.{over_start, length_over}
use Rattle.isdb_mmt.proofs.Limits.{passed}
use Rattle.isdb_mmt.proofs.Stored.{holds_front, yes_no, limits_held, flag_small}

-- the bytes behind the limits
abbrev zeroed : ℕ
zeroed = state_size - used_place

-- `n` zeros
abbrev zeros : ℕ → List ℕ
zeros n = replicate n 0

drop_zeros : (n m : ℕ) → drop n (zeros (n + m)) ≡ zeros m
drop_zeros zero m = rw (zero-add m)
drop_zeros (suc n) m = rw (suc-add n m) (drop_zeros n m)

length_zeros : (n : ℕ) → length (zeros n) ≡ n
length_zeros n = length-replicate n 0

-- bytes in place of the first `n` of `s`
front : (bs s : List ℕ) (n : ℕ) → length bs ≡ n → bs ++ drop n s ≡ over 0 bs s
unfolding over
front bs s n e = rw (← e)

-- where the first part of `s` was set to zeros, then `bs` stored at its start
over_zeros : (bs s m : List ℕ) (n k : ℕ) → length bs ≡ n → n + k ≤ length s → m ≡ zeros (length (take (n + k) s))
    → over 0 bs (m ++ drop (n + k) s) ≡ over 0 (bs ++ zeros k) s
over_zeros bs s m n k e h q =
    let z : m ≡ zeros (n + k) = q ∙ ap zeros (length-take-le (n + k) s h) in
    let r : length (zeros (n + k)) ≡ n + k = length_zeros (n + k) in
    ap (λ (x : List ℕ). over 0 bs (x ++ drop (n + k) s)) z
    ∙ ap (over 0 bs) (front (zeros (n + k)) s (n + k) r)
    ∙ over_start 0 bs (zeros (n + k)) s (omega arith) (omega arith)
    ∙ ap (λ j. over 0 (bs ++ drop j (zeros (n + k))) s) e
    ∙ ap (λ (x : List ℕ). over 0 (bs ++ x) s) (drop_zeros n k)

-- the state that is left: `m` of the part that was cleared, then limits over its start
pub opens_state : (l : Limits) (s m b : List ℕ) → state_size ≤ length s → m ≡ replicate (length (take state_size s)) 0
    → b ≡ over 0 (written (limits_fields l)) (m ++ drop state_size s) → b ≡ over 0 (opened_state l) s
unfolding opened_state
opens_state l s m b h e f = f ∙ over_zeros (written (limits_fields l)) s m used_place zeroed (length_written (limits_fields l)) h e

-- the answer `r` of an opening and what it leaves
module _ (l : Limits) (state others objects messages tables : List ℕ) (r : ℕ) (e : r ≡ asked l (lengths_of (lent state others objects messages tables))) where
  pub opens_long : r ≡ 0 → state_size ≤ length state
  opens_long z = (passed l (lengths_of (lent state others objects messages tables)) (sym e ∙ z)).state

  pub opens : (state' others' : List ℕ) → r ≡ 0 → length others ≡ table_ids → state' ≡ over 0 (opened_state l) state
      → others' ≡ replicate (length others) 0
      → Opened l (lent state others objects messages tables) r (lent state' others' objects messages tables)
  unfolding opened_session
  opens state' others' z n es eo =
      record {
        number = e;
        unchanged = λ x. absurd (x z);
        done = λ x. let f : others' ≡ zeros table_ids = eo ∙ ap zeros n in λ i. lent (es i) (f i) objects messages tables;
      }

  pub refuses : (r ≡ 0 → ⊥) → Opened l (lent state others objects messages tables) r (lent state others objects messages tables)
  refuses z = record { number = e; unchanged = λ x. refl; done = λ x. absurd (z x) }

-- ---- what an opened state holds

get_d_zeros : (n i : ℕ) → get_or (zeros n) i 0 ≡ 0
get_d_zeros zero i = refl
get_d_zeros (suc n) zero = refl
get_d_zeros (suc n) (suc i) = get_d_zeros n i

be_zeros : (w n at : ℕ) → be w (zeros n) at ≡ 0
unfolding be
be_zeros zero n at = refl
be_zeros (suc w) n at = omega (arith, be_zeros w n at, get_d_zeros n (at + w))

length_opened : (l : Limits) → length (opened_state l) ≡ state_size
unfolding opened_state
length_opened l =
    length-append (written (limits_fields l)) (zeros zeroed)
    ∙ ap (λ n. n + length (zeros zeroed)) (length_written (limits_fields l))
    ∙ ap (λ n. used_place + n) (length_zeros zeroed)

-- limits, then zeros, then what else was lent
opened_bytes : (l : Limits) (m : List ℕ) → over 0 (opened_state l) m ≡ written (limits_fields l) ++ (zeros zeroed ++ drop state_size m)
unfolding opened_state
opened_bytes l m =
    sym (front (opened_state l) m state_size (length_opened l)) ∙ append_assoc (written (limits_fields l)) (zeros zeroed) (drop state_size m)

-- a head's fields at the start: no place in use, neither PLT nor TOT, no time, all counts 0
abbrev pub no_places : Used
no_places = record { media_ids = 0; control_ids = 0; sections = 0 }

abbrev pub no_tables : Latest
no_tables = record { plt = false; plt_length = 0; tot = false; tot_length = 0 }

abbrev pub no_time : Time
no_time = record { seen = false; timestamp = 0 }

-- limits that pass the questions fit their fields
limits_fit : (l : Limits) (n : Lengths) → asked l n ≡ 0 → Fit (limits_fields l)
limits_fit l n e =
    let p = passed l n e in (
      omega arith,
      (omega arith, (omega arith, (omega arith, (omega arith, (omega arith, (omega arith, (flag_small l.pass_scrambled, tt))))))),
    )

-- after an accepted opening the limits are those that it was given
pub opened_limits : (l : Limits) (s : Session) → asked l (lengths_of s) ≡ 0 → limits_of (opened_session l s).state ≡ l
unfolding opened_session
opened_limits l s e =
    rw (opened_bytes l s.state)
    (limits_held l (written (limits_fields l) ++ (zeros zeroed ++ drop state_size s.state))
    (holds_front (limits_fields l) (zeros zeroed ++ drop state_size s.state) (limits_fit l (lengths_of s) e)))

module _ (l : Limits) (s : Session) where
  -- each number behind the limits is 0, and each flag is off
  none : (w at : ℕ) → used_place ≤ at → at + w ≤ state_size → be w (over 0 (opened_state l) s.state) at ≡ 0
  none w at h b =
      let e : used_place + (at - used_place) ≡ at = omega arith in
      let z : length (zeros zeroed) ≡ zeroed = length_zeros zeroed in
      let r = zeros zeroed ++ drop state_size s.state in
      ap (λ (x : List ℕ). be w x at) (opened_bytes l s.state)
      ∙ ap (λ n. be w (written (limits_fields l) ++ r) n) (sym e)
      ∙ be_behind w (written (limits_fields l)) r {n = used_place} (length_written (limits_fields l)) (at - used_place)
      ∙ be_before w (zeros zeroed) (drop state_size s.state) (at - used_place) (omega arith)
      ∙ be_zeros w zeroed (at - used_place)

  off : (at : ℕ) → used_place ≤ at → at + 1 ≤ state_size → flag (over 0 (opened_state l) s.state) at ≡ false
  off at h b = yes_no false (none 1 at h b)

  -- the areas keep their lengths, and so does the state
  opened_lengths : state_size ≤ length s.state → lengths_of (opened_session l s) ≡ lengths_of s
  unfolding opened_session
  opened_lengths h =
      let n = length_over 0 (opened_state l) s.state (omega (arith, length_opened l)) in
      λ i.
      record {
        state = n i;
        objects = length s.objects;
        messages = length s.messages;
        tables = length s.tables;
      }

  -- and nothing else is there yet
  pub opened_used : used_of (opened_session l s).state ≡ no_places
  unfolding opened_session used_of
  opened_used =
      let m = none 4 used_place (omega arith) (omega arith) in
      let c = none 4 (used_place + 4) (omega arith) (omega arith) in
      let x = none 4 (used_place + 8) (omega arith) (omega arith) in
      λ i. record { media_ids = m i; control_ids = c i; sections = x i }

  pub opened_latest : latest_of (opened_session l s).state ≡ no_tables
  unfolding opened_session latest_of
  opened_latest =
      let p = off latest_place (omega arith) (omega arith) in
      let n = none 4 (latest_place + 1) (omega arith) (omega arith) in
      let t = off (latest_place + 5) (omega arith) (omega arith) in
      let k = none 4 (latest_place + 6) (omega arith) (omega arith) in
      λ i. record { plt = p i; plt_length = n i; tot = t i; tot_length = k i }

  pub opened_time : time_of (opened_session l s).state ≡ no_time
  unfolding opened_session time_of
  opened_time =
      let p = off time_place (omega arith) (omega arith) in
      let n = none 8 (time_place + 1) (omega arith) (omega arith) in
      λ i. record { seen = p i; timestamp = n i }

  pub opened_counters : counters_of (opened_session l s).state ≡ no_counters
  unfolding opened_session counters_of no_counters
  opened_counters =
      let n : (k : ℕ) → k ≤ 11 → be 8 (over 0 (opened_state l) s.state) (counters_place + 8 * k) ≡ 0 =
      λ k h. none 8 (counters_place + 8 * k) (omega arith) (omega arith) in
      λ i.
      record {
        tlv_packets = n 0 (omega arith) i;
        ip_errors = n 1 (omega arith) i;
        non_mmtp = n 2 (omega arith) i;
        ntp = n 3 (omega arith) i;
        tables = n 4 (omega arith) i;
        crc_errors = n 5 (omega arith) i;
        malformed = n 6 (omega arith) i;
        version_changes = n 7 (omega arith) i;
        orphan_fragments = n 8 (omega arith) i;
        oversize = n 9 (omega arith) i;
        message_malformed = n 10 (omega arith) i;
        split_errors = n 11 (omega arith) i;
      }

-- ---- question 5 after an opening

every_zeros : (f : ℕ → Bool) (n : ℕ) → f 0 ≡ true → every f (zeros n) ≡ true
unfolding every
every_zeros f zero e = refl
every_zeros f (suc n) e = rw e (every_zeros f n e)

others_fit : (l : Limits) (s : Session) → every count_fits_of (opened_session l s).others ≡ true
unfolding opened_session
others_fit l s = every_zeros count_fits_of table_ids refl

-- bytes with no place in use, nothing kept and no counts, under limits that pass the questions
blank_sound : (l : Limits) (m others : List ℕ) (n : Lengths) → asked l n ≡ 0 → limits_of m ≡ l → used_of m ≡ no_places
    → latest_of m ≡ no_tables → counters_of m ≡ no_counters → every count_fits_of others ≡ true → sound_in m others n ≡ true
unfolding sound_in head_sound places_sound names_sound used_sound latest_sound counters_sound no_counters media_in controls_in sections_in every distinct places_from names_from
blank_sound l m others n e el eu et ec eo =
    simp (el, eu, et, ec, e, le-leb 0 l.media_ids zero-le, le-leb 0 l.control_ids zero-le, le-leb 0 l.sections zero-le, eo)

-- an accepted opening leaves a session: question 5 is answered yes
pub opened_sound : (l : Limits) (s : Session) → asked l (lengths_of s) ≡ 0 → sound (opened_session l s) ≡ true
unfolding sound
opened_sound l s e =
    let h = (passed l (lengths_of s) e).state in
    blank_sound l (opened_session l s).state (opened_session l s).others (lengths_of (opened_session l s))
    (ap (asked l) (opened_lengths l s h) ∙ e)
    (opened_limits l s e)
    (opened_used l s)
    (opened_latest l s)
    (opened_counters l s)
    (others_fit l s)

-- and it is the model's opened state
blank_view : (l : Limits) (s : Session) → view_by l (opened_session l s) ≡ opened l.pass_scrambled
unfolding view_by media_in controls_in sections_in places_from indexed opened no_counters opened_session
blank_view l s = rw (opened_used l s, opened_latest l s, opened_time l s, opened_counters l s)

pub opened_view : (l : Limits) (s : Session) → asked l (lengths_of s) ≡ 0 → view (opened_session l s) ≡ opened l.pass_scrambled
unfolding view
opened_view l s e = ap (λ (x : Limits). view_by x (opened_session l s)) (opened_limits l s e) ∙ blank_view l s

pub opening : Opening
opening l s e = record { session = opened_sound l s e; state = opened_view l s e }
