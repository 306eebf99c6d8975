-- What demand 3 and the questions rule out: each useless decoder of the scope, whatever else it does. Assumes nothing.
use Rattle.std.specs.Prelude.{None, Some}
use Rattle.std.proofs.Common.{◌≡◌, ℕ, zero, suc, true, List, [], ◌∷◌, ◌++◌, length, get_or, sym, refl, ap, ◌∙◌, append-nil, arith, ltb-true}
use Rattle.isdb_tlv.specs.Guards.{◌<?◌}
use Rattle.isdb_mmt.specs.Decoder.Packet.{Bytes}
use Rattle.isdb_mmt.specs.Decoder.Maps.{find, or_else}
use Rattle.isdb_mmt.specs.Decoder.Objects.{fresh as fresh_asset}
use Rattle.isdb_mmt.specs.Decoder.Kept.{Section}
use Rattle.isdb_mmt.specs.Decoder.Model.{opened, asset_of}
use Rattle.isdb_mmt.specs.Books.Book.{book, is_held, delivered_of, well_formed, well_formed_in, reaching, all_idle, sections_from, reassemblies_after, sections_among}
use Rattle.isdb_mmt.specs.Books.Demand.{held_bytes}
use Rattle.isdb_mmt.specs.Memory.Lent.{every}
use Rattle.isdb_mmt.specs.Memory.Layout.{state_size}
use Rattle.isdb_mmt.specs.Memory.Limits.{asked}
use Rattle.isdb_mmt.specs.Memory.Check.{lengths_of}
use Rattle.isdb_mmt.specs.Memory.Octets.{Octets, Lent}
use Rattle.isdb_mmt.specs.Pushes.Records.{read_rows}
use Rattle.isdb_mmt.specs.Pushes.Push.{Input, packet_of, asks, leaves_of}
use Rattle.isdb_mmt.specs.Answers.Readings.{section_read, TableTold, refused, nothing, these, told_by}
use Rattle.isdb_mmt.specs.Theorems.Calls.{lost_in, held_in, push, Decoder, after, pushes, accepted, handed, Tells, none_kept, kept, After, Demand3, decoder}
use Rattle.isdb_mmt.specs.Examples.Cases.{ab, cd}
use Rattle.isdb_mmt.specs.Examples.PushCases.{small, blank, told}
use Rattle.isdb_mmt.specs.Theorems.Useless.{first, second, begins, nit, media_id, nit_key, start, Accepts, records_in, objects_in, then, NotUseless, Refutations, TurnsNoneAway, TakesThem}
use Rattle.isdb_mmt.proofs.Guards.{was_both}
use Rattle.isdb_mmt.proofs.Brief.{octets_blank}
use Rattle.isdb_mmt.proofs.Run.{delivered_of_append}
use Rattle.isdb_mmt.proofs.Said.{held_said_lem}
use Rattle.isdb_mmt.proofs.Opening.{opening}
use Rattle.isdb_mmt.proofs.Calls.{reply_number}

-- ---- what the books say of the packets

book_first : (book media_id (packet_of first ∷ [])).delivered ≡ ab ∷ []
unfolding told
book_first = refl

book_both : (book media_id (packet_of first ∷ packet_of second ∷ [])).delivered ≡ ab ∷ cd ∷ []
unfolding told
book_both = refl

book_lost : (book media_id (packet_of first ∷ [])).lost ≡ 0
unfolding told
book_lost = refl

book_held : (book media_id (packet_of begins ∷ [])).held ≡ Some ab
unfolding told
book_held = refl

one_section_lem : length (well_formed nit_key (packet_of nit ∷ [])) ≡ 1
unfolding told well_formed well_formed_in reaching all_idle sections_from reassemblies_after sections_among
one_section_lem = refl

-- ---- the session

fits : asked (small 9) (lengths_of (blank 2)) ≡ 0
unfolding told
fits = refl

lent : Lent (blank 2)
lent = record { state = octets_blank state_size; objects = octets_blank 2; messages = octets_blank 8; tables = octets_blank 64 }

octets_of : (b : Bytes) → every (λ x. x <? 256) b ≡ true → Octets b
unfolding every
octets_of [] e i = omega arith
octets_of (x ∷ b) e zero = ltb-true x 256 (was_both (x <? 256) _ e).0
octets_of (x ∷ b) e (suc i) = octets_of b (was_both (x <? 256) _ e).1 i

bytes_first : Octets first.bytes
unfolding told
bytes_first = octets_of first.bytes refl

bytes_second : Octets second.bytes
unfolding told
bytes_second = octets_of second.bytes refl

bytes_begins : Octets begins.bytes
unfolding told
bytes_begins = octets_of begins.bytes refl

bytes_nit : Octets nit.bytes
unfolding told
bytes_nit = octets_of nit.bytes refl

-- ---- decoders

abbrev is_told : TableTold → ℕ
is_told (refused n) = 0
is_told nothing = 0
is_told (these b) = 1

tells_one : {t : TableTold} {xs : List Section} → Tells t xs → length xs ≡ 1 → t ≡ nothing → ⊥
tells_one none_kept e t = omega arith
tells_one (kept x f) e t = omega (arith, ap is_told t)

module _ (d : Decoder) (h : Demand3 d) where
  one : (x : Input) → Octets x.bytes → After d start (push x ∷ [])
  one x o = h (small 9) (blank 2) fits lent (push x ∷ []) (o, tt)

  both : After d start (push first ∷ push second ∷ [])
  both = h (small 9) (blank 2) fits lent (push first ∷ push second ∷ []) (bytes_first, (bytes_second, tt))

  delivers_first : Accepts d start first → objects_in d start first ≡ ab ∷ []
  unfolding pushes accepted handed
  delivers_first e = rw (e, append-nil, book_first) at ((one first bytes_first).holds.ids media_id).delivered

  delivers_both : Accepts d start first → Accepts d (then d) second → objects_in d start first ++ objects_in d (then d) second ≡ ab ∷ cd ∷ []
  unfolding pushes accepted handed
  delivers_both e1 e2 =
      rw (e1, e2, append-nil, delivered_of_append media_id (records_in d start first) (records_in d (then d) second), book_both)
      at (both.holds.ids media_id).delivered

  stays_none : held_in start media_id ≡ None
  unfolding opened asset_of find or_else fresh_asset held_bytes
  stays_none = rw (held_said_lem start media_id, (opening (small 9) (blank 2) fits).state) refl

  not_useless : NotUseless d
  unfolding after pushes accepted handed read_rows delivered_of is_held
  not_useless =
      record {
        delivers_on = λ e1 e2 z.
            let k = rw (z, delivers_first e1) at (delivers_both e1 e2) in
            omega (arith, ap (λ (l : List Bytes). length l) k);
        loses_none = λ e n l.
            let k : lost_in (then d) media_id ≡ 0 = rw (e, book_lost) at ((one first bytes_first).holds.ids media_id).lost in
            omega (arith, sym l ∙ k);
        keeps_tables = λ e t.
            let k : Tells (told_by (d.leaves start nit).tables (section_read (d.leaves start nit) nit_key)) (well_formed nit_key (packet_of nit ∷ [])) =
            rw e at ((one nit bytes_nit).reads nit_key) in
            tells_one k one_section_lem t;
        tells_apart = λ e1 e2 z.
            let k = rw (z, delivers_first e1) at (delivers_both e1 e2) in
            omega (arith, ap (λ (l : List Bytes). get_or (get_or l 1 []) 0 0) k);
        moves = λ e l.
            let k : held_in start media_id ≡ Some ab = rw (l, e, book_held) at ((one begins bytes_begins).holds.ids media_id).held in
            omega (arith, ap is_held (sym stays_none ∙ k));
      }

pub refutations : Refutations
refutations d h = not_useless d h

-- ---- the questions

takes_first : asks start first ≡ 0
unfolding told
takes_first = refl

takes_begins : asks start begins ≡ 0
unfolding told
takes_begins = refl

takes_nit : asks start nit ≡ 0
unfolding told
takes_nit = refl

pub turns_none_away : TurnsNoneAway
turns_none_away d h = (h start first ∙ takes_first, h start begins ∙ takes_begins, h start nit ∙ takes_nit)

pub takes_them : TakesThem
unfolding told leaves_of
takes_them =
    record {
      first = reply_number start first ∙ takes_first;
      second = reply_number (then decoder) second ∙ refl;
      begins = reply_number start begins ∙ takes_begins;
      nit = reply_number start nit ∙ takes_nit;
    }
