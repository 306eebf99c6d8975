-- What is decided of a table: one law for each return. Assumes nothing.
use Rattle.isdb_mmt.specs.declared.table.section.Parsed.{Parsed}
use Rattle.std.specs.Prelude.{Err, None, Ok, Option, Result, Some}
use Rattle.std.proofs.Common.{◌≡◌, ℕ, zero, suc, ◌+◌, ◌*◌, ◌%◌, ◌<◌, ◌≤◌, Bool, true, false, cond, not, eqb, List, [], ◌∷◌, map, length, get_or, take, sym, refl, ap, ◌∙◌, add-zero, mul-zero, zero-add, arith, length-take, w16, w32, w64, Fits, le-ltb, lt-ltb, eq-eqb, ne_eqb}
use lib.ListN.{length-map}
use borrow.Author.Tests.{not-true, not-false}
use borrow.Author.Tests.{lt-leb, eqb-false}
use Rattle.std.proofs.Common.{leb, ◌≢◌}
use Rattle.std.proofs.lemmas.Bool.{leb-false}
use Rattle.isdb_tlv.specs.Bytes.{be}
use Rattle.isdb_tlv.proofs.Guards.{either}
use Rattle.isdb_mmt.specs.Formats.Part.{part_of}
use Rattle.isdb_mmt.specs.Decoder.Packet.{Bytes}
use Rattle.isdb_mmt.specs.Decoder.Maps.{one}
use Rattle.isdb_mmt.specs.Memory.Lent.{part, places_from, names_from, found_from}
use Rattle.isdb_mmt.specs.Memory.Layout.{most_sections, section_size}
use Rattle.isdb_mmt.specs.Memory.Session.{section_place_of}
use Rattle.isdb_mmt.specs.Formats.Section.{long_section_of}
use Rattle.isdb_tlv.specs.Guards.{◌<?◌}
use Rattle.isdb_mmt.specs.Formats.Mpt.{mpt_of}
use Rattle.isdb_mmt.specs.Formats.Plt.{plt_of}
use Rattle.isdb_mmt.specs.Formats.Tot.{tot_of}
use Rattle.isdb_mmt.specs.declared.table.tot.Tot.{Tot as TotRead}
use Rattle.isdb_mmt.specs.declared.table.mpt.Mpt.{Mpt as MptRead}
use Rattle.isdb_mmt.specs.declared.table.mpt.MptParsed.{MptParsed}
use Rattle.isdb_mmt.specs.declared.table.plt.Plt.{Plt as PltRead}
use Rattle.isdb_mmt.specs.Decoder.Kept.{Body, mpt_parses, plt_parses, tot_parses, tot_crc_bad, key_of, declared_section, declared_table, section_of, body_read as model_body, long_table, table_by_id, table_read}
use Rattle.isdb_mmt.specs.Formats.Eit.{eit_of}
use Rattle.isdb_mmt.specs.Formats.Sdt.{sdt_of}
use Rattle.isdb_mmt.specs.Formats.Bit.{bit_of}
use Rattle.isdb_mmt.specs.Formats.Nit.{nit_of}
use Rattle.isdb_mmt.specs.Formats.Amt.{amt_of}
use Rattle.isdb_mmt.specs.declared.table.section.SectionHeader.{SectionHeader}
use Rattle.isdb_mmt.specs.declared.table.section.SectionError.{SectionError}
use Rattle.isdb_mmt.specs.declared.table.section.SectionError.TheVariants.{Truncated, Crc, Malformed}
use Rattle.isdb_mmt.specs.declared.decoder.section.KeptSection.{KeptSection}
use Rattle.isdb_mmt.proofs.PlacesFor.{map_names, section_name}
use Rattle.isdb_mmt.proofs.Lent.{names_of, length_places}
use Rattle.isdb_mmt.proofs.Names.{true_not_false, there, index_in}
use Rattle.isdb_mmt.specs.declared.decoder.table_outcome.BodyRead.{BodyRead}
use Rattle.isdb_mmt.specs.declared.decoder.table_outcome.Recent.{Recent}
use Rattle.isdb_mmt.specs.declared.decoder.table_outcome.TableAction.TheVariants.{Nothing, Mpt, Plt, Put}
use Rattle.isdb_mmt.specs.declared.decoder.table_outcome.TableOutcome.{TableOutcome}
use Rattle.isdb_mmt.specs.Pushes.TableOutcome.{index_of, place_at, keys_of, no_section, body_from, outcome, changes_to, body_put, version_by, version_for, body_outcome, version_outcome, section_outcome, long_outcome, mpt_outcome, plt_outcome, tot_outcome, table_outcome}

-- ---- an index's places and keys

pub byte_at : (s : List ℕ) (at : ℕ) → be 1 s at ≡ get_or s at 0
unfolding be
byte_at s at = rw add-zero (omega arith)

pub length_index : (n : ℕ) (l : List ℕ) → length (index_of n l) ≡ n
unfolding index_of
length_index n l = length-map (places_from n section_size 0 l) section_place_of ∙ length_places section_size n 0 l

pub keys_index : (n : ℕ) (l : List ℕ) → keys_of (index_of n l) ≡ names_from n section_size 0 l
unfolding index_of
keys_index n l = map_names section_place_of (λ (k : KeptSection). k.key) section_name (places_from n section_size 0 l) ∙ names_of section_size (omega arith) n 0 l

pub index_at : (n : ℕ) (l : List ℕ) (i : ℕ) → i < n → get_or (index_of n l) i no_section ≡ place_at l i
unfolding index_of places_from
index_at n l i h = go n 0 i h ∙ ap (λ k. section_place_of (part k section_size l)) (zero-add (section_size * i))
  where
    go : (n at i : ℕ) → i < n → get_or (map section_place_of (places_from n section_size at l)) i no_section ≡ section_place_of (part (at + section_size * i) section_size l)
    go zero at i h = absurd (omega arith)
    go (suc n) at zero h = rw (mul-zero section_size, add-zero at)
    go (suc n) at (suc i) h =
        let e : at + section_size + section_size * i ≡ at + section_size * suc i = omega arith in
        go n (at + section_size) i (omega arith) ∙ ap (λ k. section_place_of (part k section_size l)) e

-- a name that is found lies among the names
pub found_within : (k : ℕ) (names : List ℕ) (x j : ℕ) → found_from k names x ≡ Some j → j < k + length names
unfolding found_from
found_within k [] x j e = true_not_false true refl (ap there (sym e))
found_within k (y ∷ ys) x j e =
    either (eqb y x)
    (λ t. let n : k ≡ j = ap index_in (rw t at e) in omega arith)
    (λ f. let r = found_within (k + 1) ys x j (rw f at e) in omega arith)

module _ (ix : List ℕ) (used x : ℕ) (f : Option ℕ) (ef : f ≡ found_from 0 (names_from used section_size 0 ix) x) where
  pub found_used : (i : ℕ) → f ≡ Some i → i < used
  unfolding names_from
  found_used i e =
      let h = found_within 0 (names_from used section_size 0 ix) x i (sym ef ∙ e) in
      let k : length (names_from used section_size 0 ix) ≡ used = length_names_of used 0 in
      omega arith
    where
      length_names_of : (n at : ℕ) → length (names_from n section_size at ix) ≡ n
      length_names_of zero at = refl
      length_names_of (suc n) at = ap suc (length_names_of n (at + section_size))

  pub found_place : used ≤ most_sections → (i : ℕ) → f ≡ Some i → Fits w64 (section_size * i)
  found_place h i e = omega (arith, found_used i e)

  by_found : found_from 0 (keys_of (index_of used ix)) x ≡ f
  by_found = ap (λ (ns : List ℕ). found_from 0 ns x) (keys_index used ix) ∙ sym ef

  module _ (t : Bytes) (ek : x ≡ key_of t) (h : SectionHeader) (b : Bytes) where
    for : version_for (index_of used ix) t h b ≡ version_by (index_of used ix) t h b f
    unfolding version_for
    for = ap (version_by (index_of used ix) t h b) (ap (found_from 0 (keys_of (index_of used ix))) (sym ek) ∙ by_found)

    pub version_new : f ≡ None → (r : TableOutcome) → r ≡ body_put t h b 0 used x → r ≡ version_for (index_of used ix) t h b
    version_new e r er = er ∙ sym (for ∙ rw (e, length_index used ix, ← ek))

    module _ (i : ℕ) (e : f ≡ Some i) (k : KeptSection) (ep : k ≡ place_at ix i) where
      v : (get_or (index_of used ix) i no_section).version ≡ k.version
      v = ap (λ (z : KeptSection). z.version) (index_at used ix i (found_used i e) ∙ sym ep)

      pub version_same : k.version ≡ h.version → (r : TableOutcome) → r ≡ outcome 0 0 0 0 Nothing → r ≡ version_for (index_of used ix) t h b
      version_same q r er = er ∙ sym (for ∙ rw (e, v, eq-eqb k.version h.version q))

      pub version_other : (k.version ≡ h.version → ⊥) → (r : TableOutcome) → r ≡ body_put t h b 1 i x → r ≡ version_for (index_of used ix) t h b
      version_other q r er = er ∙ sym (for ∙ rw (e, v, ne_eqb k.version h.version q, ← ek))

-- ---- a body

module _ (t : Bytes) (id : ℕ) (ei : id ≡ be 1 t 0) (h : SectionHeader) (b : Bytes) (x : BodyRead) (ex : x ≡ body_from id h b) (change i key : ℕ) where
  from_id : body_from (get_or t 0 0) h b ≡ x
  from_id = ap (λ n. body_from n h b) (sym (ei ∙ byte_at t 0)) ∙ sym ex

  pub body_bad : not x.ok ≡ true → outcome 0 1 change x.breaks Nothing ≡ body_put t h b change i key
  unfolding body_put
  body_bad e = rw (from_id, not-true x.ok e)

  pub body_good : not x.ok ≡ false → (n : ℕ) → n ≡ be 2 t 1 % 4096 → (d : Bytes) → d ≡ take (n + 3) t
      → outcome 0 0 change x.breaks (Put i (record { key = key; version = h.version; length = length d })) ≡ body_put t h b change i key
  unfolding body_put
  body_good e n en d ed = rw (from_id, not-false x.ok e, ed, en)

-- the declared bytes of a table, and of a section, are as many as a length of 32 bits can say
pub few_section : (t : Bytes) (n : ℕ) → n ≡ be 2 t 1 % 4096 → (d : Bytes) → d ≡ take (n + 3) t → Fits w32 (length d)
few_section t n en d ed = rw ed (omega (arith, length-take (n + 3) t))

pub few_table : (t : Bytes) (n : ℕ) → Fits w16 n → (d : Bytes) → d ≡ take (n + 4) t → Fits w32 (length d)
few_table t n en d ed = rw ed (omega (arith, length-take (n + 4) t, en))

-- ---- a section

head_in : (t : Bytes) (h : SectionHeader) → long_section_of t ≡ Ok h → (section_of t).header_and_crc_good ≡ true
unfolding section_of
head_in t h e = rw e

version_in_lem : (t : Bytes) (h : SectionHeader) → long_section_of t ≡ Ok h → (section_of t).version ≡ h.version
unfolding section_of
version_in_lem t h e = rw e

key_in : (t : Bytes) → (section_of t).key ≡ key_of t
unfolding section_of
key_in t = refl

module _ (t : Bytes) (h : SectionHeader) (e : long_section_of t ≡ Ok h) where
  abbrev pub read_as : Body → BodyRead
  read_as b = record { ok = b.ok; breaks = b.breaks }

  pub body_from_lem : (id : ℕ) → read_as (model_body id t) ≡ body_from id h (part_of t h.body)
  unfolding model_body body_from bit_of sdt_of nit_of amt_of eit_of
  body_from_lem id =
      either (eqb id 0x9D) (λ a. rw (a, e)) (λ a0.
      either (eqb id 0x9F) (λ a. rw (a0, a, e)) (λ a1.
      either (eqb id 0xA0) (λ a. rw (a0, a1, a, e)) (λ a2.
      either (eqb id 0x40) (λ a. rw (a0, a1, a2, a, e)) (λ a3.
      either (eqb id 0x41) (λ a. rw (a0, a1, a2, a3, a, e)) (λ a4.
      either (eqb id 0xFE) (λ a. rw (a0, a1, a2, a3, a4, a, e)) (λ a5.
      rw (a0, a1, a2, a3, a4, a5, e)))))))

  put_is : (change i : ℕ) → body_outcome (section_of t) change i ≡ body_put t h (part_of t h.body) change i (key_of t)
  unfolding section_of body_put
  put_is change i =
      let f : read_as (model_body (get_or t 0 0) t) ≡ body_from (get_or t 0 0) h (part_of t h.body) = body_from_lem (get_or t 0 0) in
      rw (← f, e)

  by_is : (ks : List KeptSection) (f : Option ℕ) → version_outcome ks (section_of t) f ≡ version_by ks t h (part_of t h.body) f
  by_is ks None = put_is 0 (length ks)
  by_is ks (Some i) =
      ap (λ w. cond (eqb (get_or ks i no_section).version w) (outcome 0 0 0 0 Nothing) (body_outcome (section_of t) 1 i)) (version_in_lem t h e)
      ∙ ap (λ (z : TableOutcome). cond (eqb (get_or ks i no_section).version h.version) (outcome 0 0 0 0 Nothing) z) (put_is 1 i)

  good_told : (ks : List KeptSection) → version_for ks t h (part_of t h.body) ≡ section_outcome ks (section_of t)
  unfolding version_for section_outcome
  good_told ks =
      sym
      (ap
      (λ (b : Bool).
      cond b (version_outcome ks (section_of t) (found_from 0 (keys_of ks) (section_of t).key))
      (cond (section_of t).crc_bad (outcome 1 0 0 0 Nothing) (outcome 0 1 0 0 Nothing)))
      (head_in t h e)
      ∙ ap (λ k. version_outcome ks (section_of t) (found_from 0 (keys_of ks) k)) (key_in t)
      ∙ by_is ks (found_from 0 (keys_of ks) (key_of t)))

module _ (t : Bytes) (ks : List KeptSection) (l : Result SectionHeader SectionError) (el : l ≡ long_section_of t) where
  pub outcome_good : (h : SectionHeader) → l ≡ Ok h → (b : Bytes) → b ≡ part_of t h.body → (r : TableOutcome) → r ≡ version_for ks t h b → r ≡ section_outcome ks (section_of t)
  outcome_good h e b eb r er = er ∙ ap (version_for ks t h) eb ∙ good_told t h (sym el ∙ e) ks

  module _ (x : SectionError) (e : l ≡ Err x) (r : TableOutcome) where
    pub outcome_crc : x ≡ Crc → r ≡ outcome 1 0 0 0 Nothing → r ≡ section_outcome ks (section_of t)
    unfolding section_outcome section_of
    outcome_crc ex er = er ∙ rw (← el, e, ex)

    pub outcome_short : x ≡ Truncated → r ≡ outcome 0 1 0 0 Nothing → r ≡ section_outcome ks (section_of t)
    unfolding section_outcome section_of
    outcome_short ex er = er ∙ rw (← el, e, ex)

    pub outcome_bad : x ≡ Malformed → r ≡ outcome 0 1 0 0 Nothing → r ≡ section_outcome ks (section_of t)
    unfolding section_outcome section_of
    outcome_bad ex er = er ∙ rw (← el, e, ex)

pub long_is : (ks : List KeptSection) (m p : Option Recent) (b : Bytes) → table_outcome ks m p (long_table b) ≡ long_outcome ks b
unfolding table_outcome long_outcome
long_is ks m p b = either (length b <? 7) (λ t. rw t) (λ f. rw f)

-- the ids of long tables
pub long_by_id : (ks : List KeptSection) (m p : Option Recent) (id : ℕ) (b : Bytes) → 139 ≤ id → id ≤ 160 → id ≢ 156 → id ≢ 158
    → (r : TableOutcome) → r ≡ long_outcome ks b → r ≡ table_outcome ks m p (table_by_id id b)
unfolding table_by_id
long_by_id ks m p id b low high a c r er =
    let l = er ∙ sym (long_is ks m p b) in
    rw (le-ltb id 17 (omega arith), lt-leb id 32 (omega arith), ne_eqb id 128 (omega arith), ne_eqb id 161 (omega arith), le-ltb id 139 low)
    (either (leb id 155) (λ t. rw t l) (λ f.
    let o : 155 < id = leb-false id 155 f in
    either (eqb id 157) (λ t. rw (f, t) l) (λ g.
    let n : id ≢ 157 = eqb-false id 157 g in
    either (eqb id 159) (λ t. rw (f, g, t) l) (λ h.
    let k : id ≢ 159 = eqb-false id 159 h in
    let e : id ≡ 160 = omega arith in
    rw (f, g, h, eq-eqb id 160 e) l))))

pub long_short : (ks : List KeptSection) (t : Bytes) → length t < 7 → (r : TableOutcome) → r ≡ outcome 0 1 0 0 Nothing → r ≡ long_outcome ks t
unfolding long_outcome
long_short ks t h r er = er ∙ rw (lt-ltb (length t) 7 h)

pub long_section : (ks : List KeptSection) (t : Bytes) → 7 ≤ length t → (r : TableOutcome) → r ≡ section_outcome ks (section_of t) → r ≡ long_outcome ks t
unfolding long_outcome
long_section ks t h r er = er ∙ rw (le-ltb (length t) 7 h)

-- ---- the others

module _ (m : Option Recent) (t : Bytes) (x : MptParsed) (ex : x ≡ mpt_of t) where
  pub mpt_some : (y : MptRead) → x.mpt ≡ Some y → (n : ℕ) → n ≡ be 2 t 2 → (d : Bytes) → d ≡ take (n + 4) t → (v : ℕ) → v ≡ be 1 d 1 → (c : ℕ) → c ≡ one (changes_to m v)
      → outcome 0 0 c x.breaks (Mpt v (length d)) ≡ mpt_outcome m (mpt_parses (mpt_of t).mpt) (mpt_of t).breaks (declared_table t)
  mpt_some y e n en d ed v ev c ec =
      let q : declared_table t ≡ d = sym (ed ∙ ap (λ k. take (k + 4) t) en) in
      let w : get_or d 1 0 ≡ v = sym (ev ∙ byte_at d 1) in
      rw (← ex, e, q, w, ec)

module _ (p : Option Recent) (t : Bytes) (x : Option PltRead) (ex : x ≡ plt_of t) where
  pub plt_some : (y : PltRead) → x ≡ Some y → (n : ℕ) → n ≡ be 2 t 2 → (d : Bytes) → d ≡ take (n + 4) t → (v : ℕ) → v ≡ be 1 d 1 → (c : ℕ) → c ≡ one (changes_to p v)
      → outcome 0 0 c 0 (Plt v (length d)) ≡ plt_outcome p (plt_parses (plt_of t)) (declared_table t)
  plt_some y e n en d ed v ev c ec =
      let q : declared_table t ≡ d = sym (ed ∙ ap (λ k. take (k + 4) t) en) in
      let w : get_or d 1 0 ≡ v = sym (ev ∙ byte_at d 1) in
      rw (← ex, e, q, w, ec)

module _ (t : Bytes) (x : Parsed TotRead) (ex : x ≡ tot_of t) where
  abbrev tot_said : TableOutcome
  tot_said = tot_outcome (tot_parses (tot_of t).result) (tot_crc_bad (tot_of t).result) (tot_of t).breaks (declared_section t)

  module _ (z : SectionError) (e : x.result ≡ Err z) where
    pub tot_crc : z ≡ Crc → (r : TableOutcome) → r ≡ outcome 1 0 0 x.breaks Nothing → r ≡ tot_said
    tot_crc ez r er = er ∙ rw (← ex, e, ez)

module _ (ks : List KeptSection) (m p : Option Recent) (t : Bytes) (r : TableOutcome) where
  pub outcome_empty : length t ≡ 0 → r ≡ outcome 0 0 0 0 Nothing → r ≡ table_outcome ks m p (table_read t)
  unfolding table_read table_outcome
  outcome_empty e er = er ∙ rw (eq-eqb (length t) 0 e)

  pub outcome_by_id : (length t ≡ 0 → ⊥) → (id : ℕ) → id ≡ be 1 t 0 → r ≡ table_outcome ks m p (table_by_id id t) → r ≡ table_outcome ks m p (table_read t)
  unfolding table_read
  outcome_by_id e id ei er = er ∙ rw (ne_eqb (length t) 0 e, ei, byte_at t 0)
