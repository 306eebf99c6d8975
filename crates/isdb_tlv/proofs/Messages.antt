-- The control messages: the four words of a set hold the ids that were put in and no others, and each message leads on to a
-- place ahead, so that steps from one to the next go over all of them. Assumes nothing.
use Rattle.std.specs.Prelude.{None, Some, Option}
use Prim.Native.Nat.{ℕ, zero, suc, ◌+◌, ◌-◌, ◌/◌, ◌%◌, ◌^◌, ◌≤◌, ◌<◌, min}
use mathlib.Core.Path.{◌≡◌, refl, ap, ◌∙◌}
use mathlib.Core.Bool.{Bool, true, false, cond, not}
use mathlib.Core.List.{List, [], ◌∷◌, ◌++◌}
use native.Mathlib.Nat.{pow-suc, one-le-pow, div-eq_of_lt, mul-div-mul_right, zero-div}
use native.Mathlib.Omega.{arith}
use lib.ListN.{length, take, drop, get_or, length-take, length-drop, length-set}
use lib.Seq.{get_or-set_same, get_or-set_other}
use lib.Dec.{ltb, leb, eqb, eqb-zero-suc, eqb-suc-zero, eqb-suc-suc}
use lib.Bits.{bit_or, or_shr, or_mod, or_zero_r}
use borrow.Author.Tests.{ltb-false, leb-true, eqb-true, eqb-false, eq-eqb, ne_eqb, le-leb, lt-leb, le-ltb, lt-ltb}
use Rattle.isdb_tlv.specs.Bytes.{be, with_bit_of}
use Rattle.isdb_tlv.specs.Walk.{more, turn}
use Rattle.isdb_tlv.proofs.Walk.{Ahead, walk_at, run_more, plus, one_more as one_more_item}
use Rattle.isdb_tlv.specs.Messages.{no_table_ids, word_of, has, insert, insert_all, set_of, listed_at, listed_from, table_id_at, walked_from, message_of, behind, message_in, prefixed_at, message_at, message_step, item, messages_from}
use Rattle.isdb_tlv.specs.Facts.{member, SetIsList}
use Rattle.isdb_tlv.specs.declared.mmtp.TableIds.{TableIds}
use Rattle.isdb_tlv.specs.declared.mmtp.Message.{Message}
use Rattle.isdb_tlv.specs.declared.mmtp.MessageStep.TheVariants.{Found}
use Rattle.isdb_tlv.proofs.Guards.{either, cond_elim, cond_same}

-- bit j of a power of 2
bit_power : (i j : ℕ) → 2 ^ i / 2 ^ j % 2 ≡ cond (eqb j i) 1 0
bit_power zero zero = refl
bit_power zero (suc j) =
    let h = one-le-pow j 2 (omega arith) in
    let l : 1 < 2 ^ suc j = rw (pow-suc 2 j) (omega arith) in
    rw (div-eq_of_lt l, eqb-suc-zero j)
bit_power (suc i) zero = rw (pow-suc 2 i, eqb-zero-suc i) (omega arith)
bit_power (suc i) (suc j) =
    rw (pow-suc 2 i, pow-suc 2 j, mul-div-mul_right {m = 2} (2 ^ i) (2 ^ j) (omega arith), eqb-suc-suc j i) (bit_power i j)

one_more_bit : (b : ℕ) → b < 2 → bit_or b 1 ≡ 1
one_more_bit zero h = refl
one_more_bit (suc zero) h = refl
one_more_bit (suc (suc b)) h = absurd (omega arith)

-- setting bit i sets that bit and no other
pub bit_set : (w i j : ℕ) → eqb (with_bit_of w i / 2 ^ j % 2) 1 ≡ cond (eqb j i) true (eqb (w / 2 ^ j % 2) 1)
unfolding with_bit_of
bit_set w i j =
    rw (or_shr w (2 ^ i) j, or_mod (w / 2 ^ j) (2 ^ i / 2 ^ j) 1, bit_power i j)
    (either (eqb j i) (λ e. rw (e, one_more_bit (w / 2 ^ j % 2) (omega arith))) (λ e. rw (e, or_zero_r (w / 2 ^ j % 2))))

zero_word : (k : ℕ) → ◌≡◌ {A = ℕ} (get_or no_table_ids.words k 0) 0
zero_word zero = refl
zero_word (suc zero) = refl
zero_word (suc (suc zero)) = refl
zero_word (suc (suc (suc zero))) = refl
zero_word (suc (suc (suc (suc k)))) = refl

length_insert : (id : ℕ) (t : TableIds) → length (insert id t).words ≡ length t.words
unfolding insert
length_insert id t = length-set t.words (min (id / 64) 3) (with_bit_of (word_of t (id / 64)) (id % 64))

-- the number of a word that there is
in_words : (k : ℕ) → k < 4 → min k 3 ≡ k
in_words k h = omega arith

module _ (x : ℕ) (hx : x < 256) where
  -- putting an id in adds that id and no other
  has_insert : (id : ℕ) (t : TableIds) → id < 256 → length t.words ≡ 4 → has (insert id t) x ≡ cond (eqb x id) true (has t x)
  unfolding has insert
  has_insert id t h n =
      let w = get_or t.words (id / 64) 0 in
      rw (in_words (id / 64) (omega arith), in_words (x / 64) (omega arith))
      (either (eqb (x / 64) (id / 64))
      (λ e. let d = eqb-true (x / 64) (id / 64) e in
      rw (d, get_or-set_same t.words (id / 64) (with_bit_of w (id % 64)) 0 (omega arith), bit_set w (id % 64) (x % 64))
      (either (eqb x id)
      (λ a. let b = eqb-true x id a in rw (a, eq-eqb (x % 64) (id % 64) (omega arith)))
      (λ a. rw (a, ne_eqb (x % 64) (id % 64) (λ b. eqb-false x id a (omega arith))))))
      (λ e. let d = eqb-false (x / 64) (id / 64) e in
      rw (get_or-set_other t.words (id / 64) (x / 64) (with_bit_of w (id % 64)) 0 d, ne_eqb x id (λ b. d (ap (λ n. n / 64) b)))))

  has_none : has no_table_ids x ≡ false
  unfolding has
  has_none = rw (zero_word (min (x / 64) 3), zero-div)

  has_all : (ids : List ℕ) (t : TableIds) → ((i : ℕ) → get_or ids i 0 < 256) → length t.words ≡ 4
      → has (insert_all ids t) x ≡ cond (member x ids) true (has t x)
  has_all [] t h n = refl
  has_all (id ∷ ids) t h n =
      has_all ids (insert id t) (λ i. h (suc i)) (length_insert id t ∙ n)
      ∙ rw (has_insert id t (h 0) n) (either (eqb x id) (λ e. rw (e, cond_same (member x ids) true)) (λ e. rw e))

pub has_set : SetIsList
unfolding set_of
has_set x hx ids h = has_all x hx ids no_table_ids h refl ∙ rw (has_none x hx) (either (member x ids) (λ e. rw e) (λ e. rw e))

pub insert_both : (a b : List ℕ) (t : TableIds) → insert_all (a ++ b) t ≡ insert_all b (insert_all a t)
insert_both [] b t = refl
insert_both (id ∷ a) b t = insert_both a b (insert id t)

-- the table list: its next entry, and its end
module _ (s : List ℕ) (at : ℕ) where
  pub listed_next : (n : ℕ) (t u : TableIds) → 0 < n → at < length s → u ≡ insert (get_or s at 0) t
      → insert_all (listed_from (n - 1) s (at + 4)) u ≡ insert_all (listed_from n s at) t
  listed_next n t u hn h e =
      let d : listed_at s at ≡ more (at + 4) (λ ids. get_or s at 0 ∷ ids) = rw (lt-leb (length s) at h) in
      rw (run_more (listed_at s) (λ p. []) at n hn d, e)

  pub listed_end : (n : ℕ) → length s ≤ at → listed_from n s at ≡ []
  listed_end zero h = refl
  listed_end (suc n) h = rw (le-leb (length s) at h)

-- the tables: the next one, and their end
module _ (s : List ℕ) where
  table_ahead : (at : ℕ) → Ahead (length s) at (table_id_at s at)
  table_ahead at =
      cond_elim (Ahead (length s) at) (ltb (length s - at) 4) (λ e. tt)
      (λ e. let l = ltb-false (length s - at) 4 e in omega arith)

  walked_at : (at : ℕ) → walked_from s at ≡ turn (walked_from s) (table_id_at s at)
  unfolding walked_from
  walked_at at = walk_at (table_id_at s) [] (length s) table_ahead at

  pub walked_next : (at n : ℕ) (t u : TableIds) → 4 ≤ length s - at → u ≡ insert (get_or s at 0) t → n ≡ be 2 s (at + 2)
      → insert_all (walked_from s (at + 4 + n)) u ≡ insert_all (walked_from s at) t
  walked_next at n t u h e d = rw (walked_at at, le-ltb (length s - at) 4 h, e, d)

  pub walked_end : (at : ℕ) → length s - at < 4 → walked_from s at ≡ []
  walked_end at h = walked_at at ∙ rw (lt-ltb (length s - at) 4 h)

module _ (p : List ℕ) where
  -- a message has two bytes at least
  behind_ahead : (b : Bool) (at end : ℕ) (m : Option Message) → (b ≡ false → (at < length p) × (at < end))
      → Ahead (length p) at (item (behind end (cond b None m)))
  behind_ahead true at end m h = tt
  behind_ahead false at end None h = tt
  behind_ahead false at end (Some m) h = h refl

  in_ahead : (at from end : ℕ) → at ≤ from → Ahead (length p) at (item (message_in p from end))
  unfolding message_in message_of
  in_ahead at from end h =
      let m = take (end - from) (drop from p) in
      let n : length m ≡ min (end - from) (length p - from) = length-take (end - from) (drop from p) ∙ rw length-drop in
      behind_ahead (ltb (length m) 2) at end _ (λ e. let l = ltb-false (length m) 2 e in omega arith)

  prefixed_ahead : (at from w : ℕ) → at ≤ from → Ahead (length p) at (item (prefixed_at p from w))
  unfolding prefixed_at
  prefixed_ahead at from w h =
      cond_elim (λ r. Ahead (length p) at (item r)) (ltb (length p - from) w) (λ e. tt) (λ e.
      cond_elim (λ r. Ahead (length p) at (item r)) (ltb (length p - (from + w)) (be w p from)) (λ d. tt)
      (λ d. in_ahead at (from + w) (from + w + be w p from) (omega arith)))

  at_ahead : (at from : ℕ) → at ≤ from → Ahead (length p) at (item (message_at p from))
  unfolding message_at
  at_ahead at from h =
      cond_elim (λ r. Ahead (length p) at (item r)) (eqb (get_or p 0 0 % 2) 0) (λ e. in_ahead at from (length p) h) (λ e.
      cond_elim (λ r. Ahead (length p) at (item r)) (eqb (get_or p 0 0 / 2 % 2) 0) (λ d. prefixed_ahead at from 2 h) (λ d. prefixed_ahead at from 4 h))

  pub step_ahead : (at : ℕ) → Ahead (length p) at (item (message_step p at))
  unfolding message_step
  step_ahead at =
      cond_elim (λ r. Ahead (length p) at (item r)) (ltb (length p) 2) (λ e. tt) (λ e.
      cond_elim (λ r. Ahead (length p) at (item r)) (not (eqb (get_or p 0 0 / 64) 0)) (λ e2. tt) (λ e2.
      cond_elim (λ r. Ahead (length p) at (item r)) (leb at 2) (λ e3. at_ahead at 2 (leb-true at 2 e3)) (λ e3.
      cond_elim (λ r. Ahead (length p) at (item r)) (leb (length p) at) (λ e4. tt) (λ e4. at_ahead at at (omega arith)))))

  -- the messages from a place on: what stands there, and the messages from where it leads
  pub messages_at : (at : ℕ) → messages_from p at ≡ turn (messages_from p) (item (message_step p at))
  unfolding messages_from
  messages_at at = walk_at (λ q. item (message_step p q)) None (length p) step_ahead at

-- the turn of the loop that counts them
pub one_more : (p : List ℕ) (at k : ℕ) {m : Message} {next : ℕ} {r : Option ℕ} → message_step p at ≡ Found m next
    → plus None Some k (messages_from p at) ≡ r → plus None Some (k + 1) (messages_from p next) ≡ r
one_more p at k {m} {next} d e = one_more_item None Some k m (messages_from p next) (messages_at p at ∙ rw d) e
