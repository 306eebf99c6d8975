-- What a session says lies in its bytes: stored again, it changes nothing. Assumes nothing.
use Rattle.std.specs.Prelude.{is_some}
use Rattle.std.proofs.Common.{◌≡◌, ℕ, ◌+◌, ◌*◌, ◌≤◌, Bool, true, false, List, [], ◌∷◌, ◌++◌, map, length, sym, refl, ap, ◌∙◌, arith}
use Rattle.isdb_tlv.specs.Fields.{written}
use Rattle.isdb_mmt.specs.Decoder.Packet.{Bytes}
use Rattle.isdb_mmt.specs.Decoder.Kept.{Kept}
use Rattle.isdb_mmt.specs.Memory.Lent.{part, over, places_from, indexed}
use Rattle.isdb_mmt.specs.Memory.Layout.{section_places, section_size}
use Rattle.isdb_mmt.specs.Memory.Session.{Session, limits_of, used_of, latest_of, section_place_of, section_fields}
use Rattle.isdb_mmt.specs.Memory.Check.{Sound, lengths_of, sections_in}
use Rattle.isdb_mmt.specs.Memory.View.{given, section_entry, kept_table_at, view_by, view}
use Rattle.isdb_mmt.specs.Memory.Octets.{Octets}
use Rattle.isdb_mmt.specs.Memory.PlacesOf.{table_length, latest_for}
use Rattle.isdb_mmt.specs.Pushes.Leaves.{kept_place, section_rows, with_sections, bytes_over, kept_over, latest_over}
use Rattle.isdb_mmt.specs.Pushes.FragmentPush.{length_if, normal_latest}
use Rattle.isdb_mmt.specs.declared.decoder.limits.Limits.{Limits}
use Rattle.isdb_mmt.specs.declared.decoder.section.KeptSection.{KeptSection}
use Rattle.isdb_mmt.proofs.Leaving.{flat, flat_places}
use Rattle.isdb_mmt.proofs.Stays.{Placed, exact_was, section_there, placed_mono}
use Rattle.isdb_mmt.proofs.Lent.{length_part, over_same}

-- ---- places

rows_flat : (g : ℕ → KeptSection → ℕ × Kept) (xs : List KeptSection) (k : ℕ) → Placed (λ i x. kept_place (g i x) ≡ x) k xs → section_rows (indexed g k xs) ≡ flat xs
unfolding section_rows indexed
rows_flat g [] k p = refl
rows_flat g (x ∷ xs) k p =
    ap (λ (y : KeptSection). written (section_fields y) ++ section_rows (indexed g (k + 1) xs)) p.0
    ∙ ap (λ (y : List ℕ). written (section_fields x) ++ y) (rows_flat g xs (k + 1) p.1)

rows_bytes : (g : ℕ → KeptSection → ℕ × Kept) (l : List ℕ) → Octets l → (n k at : ℕ) → at + section_size * n ≤ length l
    → Placed (λ i x. kept_place (g i x) ≡ x) k (map section_place_of (places_from n section_size at l))
    → section_rows (indexed g k (map section_place_of (places_from n section_size at l))) ≡ part at (section_size * n) l
rows_bytes g l o n k at h p = rows_flat g (map section_place_of (places_from n section_size at l)) k p ∙ flat_places l o n at h

-- ---- areas

pub laid_same : (b : Bool) (at n : ℕ) (t : Bytes) → bytes_over at (given b (part at n t)) t ≡ t
laid_same true at n t = over_same at n t
laid_same false at n t = refl

kept_same : (l : Limits) (s : Session) (xs : List KeptSection) (k : ℕ) → kept_over l.table_area k (indexed (section_entry l s) k xs) s.tables ≡ s.tables
unfolding kept_over indexed
kept_same l s [] k = refl
kept_same l s (x ∷ xs) k =
    ap (kept_over l.table_area (k + 1) (indexed (section_entry l s) (k + 1) xs)) (over_same (k * l.table_area) x.length s.tables)
    ∙ kept_same l s xs (k + 1)

pub is_there : (b : Bool) {A : Type 0} (a : A) → is_some (given b a) ≡ b
is_there true a = refl
is_there false a = refl

pub given_length : (b : Bool) (at n : ℕ) (t : Bytes) → (b ≡ true → at + n ≤ length t) → table_length (given b (part at n t)) ≡ length_if b n
given_length true at n t h = length_part at n t (h refl)
given_length false at n t h = refl

-- ---- a session

module _ (s : Session) (ok : Sound s.state s.others (lengths_of s)) where
  abbrev l : Limits
  l = limits_of s.state

  rows_are : Octets s.state → section_rows (view s).store.kept ≡ part section_places (section_size * (used_of s.state).sections) s.state
  unfolding view view_by sections_in
  rows_are o =
      rows_bytes (section_entry l s) s.state o (used_of s.state).sections 0 section_places (omega (arith, ok.there.long, ok.there.sections))
      (placed_mono (section_there l s) (λ i x. kept_place (section_entry l s i x) ≡ x)
      (λ i x h. let e = length_part (i * l.table_area) x.length s.tables h in λ j. record { key = x.key; version = x.version; length = e j })
      (sections_in s.state) 0 (exact_was s ok).sections)

  -- a state with these section places
  pub sections_same : Octets s.state → (b : List ℕ)
      → part section_places (section_size * (used_of s.state).sections) b ≡ part section_places (section_size * (used_of s.state).sections) s.state
      → with_sections (view s).store.kept b ≡ b
  sections_same o b e =
      ap (λ (y : List ℕ). over section_places y b) (rows_are o ∙ sym e) ∙ over_same section_places (section_size * (used_of s.state).sections) b

  pub tables_same : latest_over l (view s).store (kept_over l.table_area 0 (view s).store.kept s.tables) ≡ s.tables
  unfolding view view_by
  tables_same =
      ap (latest_over l (view s).store) (kept_same l s (sections_in s.state) 0)
      ∙ ap (bytes_over ((l.sections + l.control_ids + 1) * l.table_area) (view s).store.tot)
      (laid_same (latest_of s.state).plt ((l.sections + l.control_ids) * l.table_area) (latest_of s.state).plt_length s.tables)
      ∙ laid_same (latest_of s.state).tot ((l.sections + l.control_ids + 1) * l.table_area) (latest_of s.state).tot_length s.tables

  pub latest_same : latest_for (view s).store ≡ normal_latest (latest_of s.state)
  unfolding latest_for view view_by
  latest_same =
      let x = latest_of s.state in
      let p = is_there x.plt (kept_table_at l s (l.sections + l.control_ids) x.plt_length) in
      let t = is_there x.tot (kept_table_at l s (l.sections + l.control_ids + 1) x.tot_length) in
      let pl = given_length x.plt ((l.sections + l.control_ids) * l.table_area) x.plt_length s.tables (exact_was s ok).plt in
      let tl = given_length x.tot ((l.sections + l.control_ids + 1) * l.table_area) x.tot_length s.tables (exact_was s ok).tot in
      λ i. record { plt = p i; plt_length = pl i; tot = t i; tot_length = tl i }
