-- `keep` and a key's well-formed sections: what is kept is the first of the last run of equal version. Assumes nothing.
use Rattle.std.specs.Prelude.{Option, None, Some}
use Rattle.std.proofs.Common.{◌≡◌, ℕ, Bool, true, false, cond, not, ◌&&◌, eqb, ◌≢◌, List, [], ◌∷◌, ◌++◌, map, sym, refl, ap, ◌∙◌, append_assoc, append-nil}
use mir.Facts.{eqb_no}
use Rattle.isdb_mmt.specs.Decoder.Packet.{Bytes, MessagePacket, Packet, ip_error, ntp, non_mmtp_of, media, message, control, other}
use Rattle.isdb_mmt.specs.Decoder.Maps.{or_else, find, put}
use Rattle.isdb_mmt.specs.Decoder.Reassembly.{Reassembly, reassembly_after}
use Rattle.isdb_mmt.specs.Decoder.Kept.{Section, section_of, Kept, KeptTables, other_version, keep_if, keep, keep_all_of, Table, empty_table, mpt_table, plt_table, tot_table, truncated_section, a_section, other_table, stored, stored_all}
use Rattle.isdb_mmt.specs.Decoder.GivenTables.{tables_given, control_tables}
use Rattle.isdb_mmt.specs.Decoder.Model.{State, opened, idle_control, control_of, reassembly_of, pushed}
use Rattle.isdb_mmt.specs.Books.Book.{well_formed_in, sections_among, Reassemblies, all_idle, reassemblies_after, sections_from, reaching, well_formed, AllOf, LastDiffers, FirstOfLastRun}
use Rattle.isdb_mmt.specs.Books.Demand.{push_all, Keeps, never, keeps}
use Rattle.isdb_mmt.proofs.Maps.{eqb-true, find_put, find_put_other}

abbrev kept_of : Section → Kept
kept_of x = record { version = x.version; bytes = x.bytes }

-- runs of equal version

all_snoc : (v : ℕ) (xs : List Section) (x : Section) → AllOf v xs → x.version ≡ v → AllOf v (xs ++ (x ∷ []))
all_snoc v [] x a e = (e, tt)
all_snoc v (y ∷ ys) x a e = (a.0, all_snoc v ys x a.1 e)

ends_run : (v w : ℕ) (x : Section) (run : List Section) → w ≢ v → x.version ≡ w → AllOf w run → LastDiffers v (x ∷ run)
ends_run v w x [] n e a = rw e n
ends_run v w x (y ∷ ys) n e a = ends_run v w y ys n a.0 a.1

ends_off : (v : ℕ) (before : List Section) (x : Section) (run : List Section)
    → x.version ≢ v → AllOf x.version run → LastDiffers v (before ++ x ∷ run)
ends_off v [] x run n a = ends_run v x.version x run n refl a
ends_off v (b ∷ []) x run n a = ends_off v [] x run n a
ends_off v (b ∷ c ∷ cs) x run n a = ends_off v (c ∷ cs) x run n a

-- the same version again
again : (x y : Section) (xs : List Section) → y.version ≡ x.version → FirstOfLastRun x xs → FirstOfLastRun x (xs ++ (y ∷ []))
again x y xs e f =
    record {
      before = f.before;
      run = f.run ++ (y ∷ []);
      is = ap (λ (l : List Section). l ++ (y ∷ [])) f.is ∙ append_assoc f.before (x ∷ f.run) (y ∷ []);
      alike = all_snoc x.version f.run y f.alike e;
      starts = f.starts;
    }

-- another version
anew : (x y : Section) (xs : List Section) → x.version ≢ y.version → FirstOfLastRun x xs → FirstOfLastRun y (xs ++ (y ∷ []))
anew x y xs n f =
    record {
      before = xs;
      run = [];
      is = refl;
      alike = tt;
      starts = rw f.is (ends_off y.version f.before x f.run n f.alike);
    }

-- one section, at one key

abbrev tracked : Option Kept → Section → Option Kept
tracked o x = cond x.header_and_crc_good (cond (other_version o x.version) (cond x.body_ok (Some (kept_of x)) o) o) o

keep_same : (x : Section) (m : List (ℕ × Kept)) (h n b : Bool)
    → find x.key (cond h (keep_if n b x m) m)
    ≡ cond h (cond n (cond b (Some (kept_of x)) (find x.key m)) (find x.key m)) (find x.key m)
unfolding keep_if
keep_same x m true true true = find_put x.key (kept_of x) m
keep_same x m true true false = refl
keep_same x m true false b = refl
keep_same x m false n b = refl

keep_other : (k : ℕ) (x : Section) (m : List (ℕ × Kept)) (h n b : Bool)
    → eqb k x.key ≡ false → find k (cond h (keep_if n b x m) m) ≡ find k m
unfolding keep_if
keep_other k x m true true true e = find_put_other k x.key (kept_of x) m e
keep_other k x m true true false e = refl
keep_other k x m true false b e = refl
keep_other k x m false n b e = refl

keep_tracks : (k : ℕ) (x : Section) (m : List (ℕ × Kept)) → find k (keep x m) ≡ cond (eqb k x.key) (tracked (find k m) x) (find k m)
unfolding keep
keep_tracks k x m = go (eqb k x.key) refl
  where
    go : (b : Bool) → eqb k x.key ≡ b → find k (keep x m) ≡ cond b (tracked (find k m) x) (find k m)
    go true e = rw (eqb-true k x.key e) (keep_same x m x.header_and_crc_good (other_version (find x.key m) x.version) x.body_ok)
    go false e = keep_other k x m x.header_and_crc_good (other_version (find x.key m) x.version) x.body_ok e

tracks : (o : Option Kept) (xs : List Section) (x : Section) → Keeps o xs
    → Keeps (tracked o x) (xs ++ cond (x.header_and_crc_good && x.body_ok) (x ∷ []) [])
unfolding other_version
tracks o xs x never = go x.header_and_crc_good x.body_ok
  where
    go : (h b : Bool) → Keeps (cond h (cond b (Some (kept_of x)) None) None) (cond (h && b) (x ∷ []) [])
    go true true = keeps x (record { before = []; run = []; is = refl; alike = tt; starts = tt })
    go true false = never
    go false b = never
tracks o xs x (keeps y f) = go x.header_and_crc_good x.body_ok (eqb y.version x.version) refl
  where
    go : (h b n : Bool) → eqb y.version x.version ≡ n
        → Keeps (cond h (cond (not n) (cond b (Some (kept_of x)) (Some (kept_of y))) (Some (kept_of y))) (Some (kept_of y)))
        (xs ++ cond (h && b) (x ∷ []) [])
    go true true true e = keeps y (again y x xs (sym (eqb-true y.version x.version e)) f)
    go true true false e = keeps x (anew y x xs (eqb_no (rw e tt)) f)
    go true false true e = rw append-nil (keeps y f)
    go true false false e = rw append-nil (keeps y f)
    go false b n e = rw append-nil (keeps y f)

-- all sections

keep_one : (k : ℕ) (m : List (ℕ × Kept)) (past : List Section) (x : Section)
    → Keeps (find k m) past → Keeps (find k (keep x m)) (past ++ well_formed_in k (x ∷ []))
unfolding well_formed_in
keep_one k m past x q = rw keep_tracks (go (eqb k x.key))
  where
    go : (b : Bool) → Keeps (cond b (tracked (find k m) x) (find k m)) (past ++ cond (b && (x.header_and_crc_good && x.body_ok)) (x ∷ []) [])
    go true = tracks (find k m) past x q
    go false = rw append-nil q

well_cons : (k : ℕ) (x : Section) (xs : List Section) → well_formed_in k (x ∷ xs) ≡ well_formed_in k (x ∷ []) ++ well_formed_in k xs
unfolding well_formed_in
well_cons k x xs = go (eqb k x.key && (x.header_and_crc_good && x.body_ok))
  where
    go : (b : Bool) → cond b (x ∷ well_formed_in k xs) (well_formed_in k xs) ≡ cond b (x ∷ []) [] ++ well_formed_in k xs
    go true = refl
    go false = refl

keep_all : (k : ℕ) (xs : List Section) (m : List (ℕ × Kept)) (past : List Section)
    → Keeps (find k m) past → Keeps (find k (keep_all_of xs m)) (past ++ well_formed_in k xs)
unfolding keep_all_of well_formed_in
keep_all k [] m past q = rw append-nil q
keep_all k (x ∷ xs) m past q =
    rw (well_cons k x xs, ← (append_assoc past (well_formed_in k (x ∷ [])) (well_formed_in k xs)))
    (keep_all k xs (keep x m) (past ++ well_formed_in k (x ∷ [])) (keep_one k m past x q))

well_append : (k : ℕ) (xs ys : List Section) → well_formed_in k (xs ++ ys) ≡ well_formed_in k xs ++ well_formed_in k ys
unfolding well_formed_in
well_append k [] ys = refl
well_append k (x ∷ xs) ys =
    well_cons k x (xs ++ ys)
    ∙ ap (λ (l : List Section). well_formed_in k (x ∷ []) ++ l) (well_append k xs ys)
    ∙ sym (append_assoc (well_formed_in k (x ∷ [])) (well_formed_in k xs) (well_formed_in k ys))
    ∙ ap (λ (l : List Section). l ++ well_formed_in k ys) (sym (well_cons k x xs))

-- tables: only the sections among them are kept by key

stored_kept : (s : KeptTables) (ts : List Table) → (stored_all s ts).kept ≡ keep_all_of (sections_among ts) s.kept
unfolding stored_all stored keep_all_of sections_among
stored_kept s [] = refl
stored_kept s (empty_table ∷ ts) = stored_kept s ts
stored_kept s (mpt_table ok n b ∷ ts) = stored_kept s ts
stored_kept s (plt_table ok b ∷ ts) = stored_kept (stored s (plt_table ok b)) ts
stored_kept s (tot_table ok c n b ∷ ts) = stored_kept (stored s (tot_table ok c n b)) ts
stored_kept s (truncated_section ∷ ts) = stored_kept s ts
stored_kept s (a_section x ∷ ts) = stored_kept (stored s (a_section x)) ts
stored_kept s (other_table id ∷ ts) = stored_kept (stored s (other_table id)) ts

among_control : (bs : List Bytes) → sections_among (control_tables bs) ≡ map section_of bs
unfolding sections_among
among_control [] = refl
among_control (b ∷ bs) = ap (λ (l : List Section). section_of b ∷ l) (among_control bs)

-- the control ids of a state hold what the packets say
abbrev Agree : State → Reassemblies → Type 0
Agree s ls = (i : ℕ) → reassembly_of i s ≡ ls i

agree_put : (s : State) (ls : Reassemblies) (c : MessagePacket) (m : Option Bytes) (i : ℕ) → Agree s ls
    → (or_else idle_control (find i (put c.id (record { reassembly = reassembly_after (reassembly_of c.id s) c; mpt = m }) s.controls))).reassembly
    ≡ cond (eqb i c.id) (reassembly_after (ls c.id) c) (ls i)
unfolding or_else control_of
agree_put s ls c m i h = go (eqb i c.id) refl
  where
    go : (b : Bool) → eqb i c.id ≡ b
        → (or_else idle_control (find i (put c.id (record { reassembly = reassembly_after (reassembly_of c.id s) c; mpt = m }) s.controls))).reassembly
        ≡ cond b (reassembly_after (ls c.id) c) (ls i)
    go true e = rw (eqb-true i c.id e, find_put) (ap (λ (l : Reassembly). reassembly_after l c) (h c.id))
    go false e = rw (find_put_other i c.id _ _ e) (h i)

agree_push : (s : State) (ls : Reassemblies) (p : Packet) → Agree s ls → Agree (pushed s p) (reassemblies_after ls p)
unfolding pushed reassemblies_after control_of
agree_push s ls ip_error h i = h i
agree_push s ls (ntp t) h i = h i
agree_push s ls non_mmtp_of h i = h i
agree_push s ls (media m) h i = h i
agree_push s ls (message c) h i = agree_put s ls c _ i h
agree_push s ls (control bs) h i = h i
agree_push s ls other h i = h i

push_kept : (s : State) (ls : Reassemblies) (p : Packet) → Agree s ls → (pushed s p).store.kept ≡ keep_all_of (sections_from ls p) s.store.kept
unfolding pushed sections_from keep_all_of
push_kept s ls ip_error h = refl
push_kept s ls (ntp t) h = refl
push_kept s ls non_mmtp_of h = refl
push_kept s ls (media m) h = refl
push_kept s ls (message c) h =
    stored_kept s.store (tables_given (reassembly_of c.id s) c)
    ∙ ap (λ (l : Reassembly). keep_all_of (sections_among (tables_given l c)) s.store.kept) (h c.id)
push_kept s ls (control bs) h =
    stored_kept s.store (control_tables bs) ∙ ap (λ (xs : List Section). keep_all_of xs s.store.kept) (among_control bs)
push_kept s ls other h = refl

-- all packets

keep_from : (k : ℕ) (ps : List Packet) (s : State) (ls : Reassemblies) (past : List Section)
    → Agree s ls → Keeps (find k s.store.kept) past
    → Keeps (find k (push_all s ps).store.kept) (past ++ well_formed_in k (reaching ls ps))
unfolding push_all reaching well_formed_in
keep_from k [] s ls past h q = rw append-nil q
keep_from k (p ∷ ps) s ls past h q =
    rw (
      well_append k (sections_from ls p) (reaching (reassemblies_after ls p) ps),
      ← (append_assoc past (well_formed_in k (sections_from ls p)) (well_formed_in k (reaching (reassemblies_after ls p) ps))),
    )
    (keep_from k ps (pushed s p) (reassemblies_after ls p) (past ++ well_formed_in k (sections_from ls p)) (agree_push s ls p h)
    (rw (push_kept s ls p h) (keep_all k (sections_from ls p) s.store.kept past q)))

pub keys : (pass : Bool) (ps : List Packet) (k : ℕ) → Keeps (find k (push_all (opened pass) ps).store.kept) (well_formed k ps)
unfolding opened well_formed all_idle find control_of idle_control or_else
keys pass ps k = keep_from k ps (opened pass) all_idle [] (λ i. refl) never
