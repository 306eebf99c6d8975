-- What the readings of kept tables tell of a session, in the words of its view (View.antt).
use Rattle.std.specs.Prelude.{◌≡◌, ℕ, ◌+◌, ◌<◌, ◌≤◌, Bool, true, List, [], ◌∷◌, length, ◌≢◌, Option as StdOption, Some, None, Result, Ok, Err, if◌then◌else◌, Option}
use Rattle.isdb_mmt.specs.declared.decoder.refusal.Refusal.{Refusal}
use Rattle.isdb_mmt.specs.Memory.Refusals.{number_of}
use Rattle.isdb_mmt.specs.declared.decoder.readings.CarriedAsset.{CarriedAsset}
use Rattle.isdb_mmt.specs.declared.part.Part.{Part}
use Rattle.isdb_mmt.specs.Decoder.Packet.{Bytes}
use Rattle.isdb_mmt.specs.Formats.Part.{part_of}
use Rattle.isdb_mmt.specs.Decoder.Maps.{find}
use Rattle.isdb_mmt.specs.Decoder.Kept.{Kept, parses_as, mpt_parses, plt_parses, tot_parses}
use Rattle.isdb_mmt.specs.Formats.Mpt.{mpt_of, service_id_of, assets_from}
use Rattle.isdb_mmt.specs.Formats.Plt.{plt_of}
use Rattle.isdb_mmt.specs.Formats.Tot.{tot_of}
use Rattle.isdb_mmt.specs.Decoder.Model.{State, Control}
use Rattle.isdb_mmt.specs.Memory.Session.{Session}
use Rattle.isdb_mmt.specs.Memory.Check.{sound}
use Rattle.isdb_mmt.specs.Memory.View.{view}
use Rattle.isdb_mmt.specs.Answers.Readings.{table_id_of_key, section_read, mpt_read, plt_read, tot_read, first_carried, ascending, asset_read, TableTold, refused, nothing, these, told_by}
use Rattle.isdb_mmt.specs.Memory.Octets.{Octets}
use Rattle.isdb_mmt.specs.Answers.ReadingLaws.{names_in}
use Rattle.isdb_mmt.specs.declared.table.mpt.Asset.{Asset}
use Rattle.isdb_mmt.specs.declared.table.mpt.Mpt.{Mpt}

-- what is to be said of a table that may be kept: one that does not parse is damaged, which is 5
abbrev pub says_of : (Bytes → Bool) → Option Bytes → TableTold
says_of parses None = nothing
says_of parses (Some b) = if parses b then these b else refused 5

abbrev pub section_bytes : Option Kept → Option Bytes
section_bytes None = None
section_bytes (Some k) = Some k.bytes

abbrev pub mpt_bytes : Option Control → Option Bytes
mpt_bytes None = None
mpt_bytes (Some c) = c.mpt

-- bytes that are handed out lie within the lent tables
abbrev pub Inside : Bytes → Result (StdOption Part) Refusal → Type 0
Inside tables (Err e) = Unit {0}
Inside tables (Ok None) = Unit {0}
Inside tables (Ok (Some p)) = p.start + p.length ≤ length tables

-- the answer to a reading of a table that the view keeps or does not keep
pub record Reads (tables : Bytes) (r : Result (StdOption Part) Refusal) (parses : Bytes → Bool) (kept : Option Bytes) : Type 0 where
  pub says : told_by tables r ≡ says_of parses kept
  pub inside : Inside tables r

-- every reading of a session's kept tables
pub record KeptRead (s : Session) : Type 0 where
  pub section : (k : ℕ) → Reads s.tables (section_read s k) (parses_as (table_id_of_key k)) (section_bytes (find k (view s).store.kept))
  pub mpt : (id : ℕ) → Reads s.tables (mpt_read s id) (λ b. mpt_parses (mpt_of b).mpt) (mpt_bytes (find id (view s).controls))
  pub plt : Reads s.tables (plt_read s) (λ b. plt_parses (plt_of b)) (view s).store.plt
  pub tot : Reads s.tables (tot_read s) (λ b. tot_parses (tot_of b).result) (view s).store.tot

abbrev pub TablesAreTold : Type 0
TablesAreTold = (s : Session) → sound s ≡ true → KeptRead s

-- ---- the asset that a packet id carries

-- what an answer says: a number, nothing, or the control id, its MPT's bytes, their service and the asset
pub data SaysAsset : Type 0 where
  refused_asset : ℕ → SaysAsset
  nothing_carried : SaysAsset
  an_asset : ℕ → Bytes → Option ℕ → Asset → SaysAsset

abbrev pub says_asset : Bytes → Result (StdOption CarriedAsset) Refusal → SaysAsset
says_asset tables (Err e) = refused_asset (number_of e)
says_asset tables (Ok None) = nothing_carried
says_asset tables (Ok (Some x)) = an_asset x.control_id (part_of tables x.mpt) x.service_id x.asset

-- what the MPT with bytes `b` says, where `rest` is what those behind it say
abbrev pub carried_by : ℕ → Bytes → Option ℕ → StdOption Asset → SaysAsset → SaysAsset
carried_by id b v None rest = rest
carried_by id b v (Some a) rest = an_asset id b v a

abbrev pub mpt_says : ℕ → ℕ → Bytes → Option Mpt → SaysAsset → SaysAsset
mpt_says p id b None rest = refused_asset 5
mpt_says p id b (Some t) rest =
    carried_by id b (service_id_of b t.package_id) (first_carried p b (assets_from t.assets b t.start).found) rest

abbrev pub kept_says : ℕ → ℕ → Option Bytes → SaysAsset → SaysAsset
kept_says p id None rest = rest
kept_says p id (Some b) rest = mpt_says p id b (mpt_of b).mpt rest

-- the MPTs of some control ids, one behind the other
unfoldable pub carried_among : ℕ → List (ℕ × Control) → List ℕ → SaysAsset
carried_among p m [] = nothing_carried
carried_among p m (id ∷ ids) = kept_says p id (mpt_bytes (find id m)) (carried_among p m ids)

abbrev pub InsideMpt : Bytes → Result (StdOption CarriedAsset) Refusal → Type 0
InsideMpt tables (Err e) = Unit {0}
InsideMpt tables (Ok None) = Unit {0}
InsideMpt tables (Ok (Some x)) = x.mpt.start + x.mpt.length ≤ length tables

-- the view's MPTs in ascending order of their control ids; the MPT that is handed out lies within the lent tables
pub record AssetRead (s : Session) (p : ℕ) : Type 0 where
  pub says : says_asset s.tables (asset_read s p) ≡ carried_among p (view s).controls (ascending (names_in (view s).controls))
  pub inside : InsideMpt s.tables (asset_read s p)

abbrev pub CarriedAssets : Type 0
CarriedAssets = (s : Session) → sound s ≡ true → (p : ℕ) → AssetRead s p

-- the same without an order to walk in. An MPT with bytes `b` is passed: it parses and does not name the packet id
pub record Passes (p : ℕ) (b : Bytes) : Type 0 where
  pub mpt : Mpt
  pub parses : (mpt_of b).mpt ≡ Some mpt
  pub none : first_carried p b (assets_from mpt.assets b mpt.start).found ≡ None

-- so is every MPT of a lower control id
abbrev pub PassedBelow : ℕ → List (ℕ × Control) → ℕ → Type 0
PassedBelow p m id = (j : ℕ) (b : Bytes) → j < id → mpt_bytes (find j m) ≡ Some b → Passes p b

-- the MPT of `id` names the packet id, with asset `a` of service `v`, and no lower one does
pub record Carries (p : ℕ) (m : List (ℕ × Control)) (id : ℕ) (b : Bytes) (v : Option ℕ) (a : Asset) : Type 0 where
  pub kept : mpt_bytes (find id m) ≡ Some b
  pub mpt : Mpt
  pub parses : (mpt_of b).mpt ≡ Some mpt
  pub service : v ≡ service_id_of b mpt.package_id
  pub asset : first_carried p b (assets_from mpt.assets b mpt.start).found ≡ Some a
  pub before : PassedBelow p m id

-- an MPT does not parse, and no lower one names the packet id
pub record Damaged (p : ℕ) (m : List (ℕ × Control)) : Type 0 where
  pub id : ℕ
  pub bytes : Bytes
  pub kept : mpt_bytes (find id m) ≡ Some bytes
  pub broken : (mpt_of bytes).mpt ≡ None
  pub before : PassedBelow p m id

abbrev pub AnswerIs : ℕ → List (ℕ × Control) → SaysAsset → Type 0
AnswerIs p m (refused_asset n) = (n ≡ 5) × Damaged p m
AnswerIs p m nothing_carried = (id : ℕ) (b : Bytes) → mpt_bytes (find id m) ≡ Some b → Passes p b
AnswerIs p m (an_asset id b v a) = Carries p m id b v a

-- the state is made of bytes, so that no control id is above the largest
abbrev pub FirstCarriers : Type 0
FirstCarriers = (s : Session) → sound s ≡ true → Octets s.state → (p : ℕ) → AnswerIs p (view s).controls (says_asset s.tables (asset_read s p))

-- ---- where nothing that is kept is damaged

abbrev pub hands_out : Option Bytes → TableTold
hands_out None = nothing
hands_out (Some b) = these b

-- every reading hands out what the model's state `m` keeps: nothing of it is damaged
pub record AsKept (s : Session) (m : State) : Type 0 where
  pub section : (k : ℕ) → told_by s.tables (section_read s k) ≡ hands_out (section_bytes (find k m.store.kept))
  pub mpt : (id : ℕ) → told_by s.tables (mpt_read s id) ≡ hands_out (mpt_bytes (find id m.controls))
  pub plt : told_by s.tables (plt_read s) ≡ hands_out m.store.plt
  pub tot : told_by s.tables (tot_read s) ≡ hands_out m.store.tot
  pub asset : (p : ℕ) (e : Refusal) → asset_read s p ≢ Err e
