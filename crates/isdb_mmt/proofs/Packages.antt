-- The packages and the IP deliveries of a PLT, one behind another: a loop which counts them down goes over all of them.
-- Assumes nothing.
use Rattle.std.specs.Prelude.{None, Option, Some}
use Rattle.std.proofs.Common.{◌≡◌, ℕ, ◌+◌, ◌-◌, ◌<◌, ◌≤◌, false, not, eqb, ltb, List, length, get_or, drop, arith, get_or-drop, w8, Fits}
use Rattle.isdb_tlv.proofs.Guards.{cond_elim}
use Rattle.isdb_tlv.proofs.Walk.{run_stop, run_more}
use Rattle.isdb_mmt.specs.Formats.Plt.{package_at_of, behind_package, packages_end, delivery_size, delivery_at_of, delivery_item, deliveries_whole}
use Rattle.isdb_mmt.proofs.Steps.{all_stop, all_more}
use Rattle.isdb_mmt.specs.declared.table.plt.Package.{Package}
use Rattle.isdb_mmt.specs.declared.table.plt.IpDelivery.{IpDelivery}

-- the location of an IP delivery takes 256 bytes at most
abbrev Small : Option ℕ → Type 0
Small None = Unit {0}
Small (Some n) = n ≤ 256

small : (s : List ℕ) → get_or s 1 0 < 256 → Small (delivery_size s)
unfolding delivery_size
small s h =
    let t = get_or s 0 0 in
    cond_elim Small (eqb t 1) (λ e. omega arith) (λ e.
    cond_elim Small (eqb t 2) (λ e1. omega arith) (λ e1.
    cond_elim Small (not (eqb t 5)) (λ e2. tt) (λ e2.
    cond_elim Small (ltb (length s) 2) (λ e3. tt) (λ e3. omega arith))))

pub size_le : (s : List ℕ) (p : ℕ) {n : ℕ} → ((i : ℕ) → Fits w8 (get_or s i 0)) → delivery_size (drop p s) ≡ Some n → n ≤ 256
size_le s p h e = rw e at (small (drop p s) (rw (get_or-drop p s 1 0) (h (p + 1)).fits))

module _ (s : List ℕ) (at : ℕ) where
  -- the turns of the loop that steps over n packages
  pub end_none : (n : ℕ) → 0 < n → package_at_of s at ≡ None → packages_end n s at ≡ None
  end_none n h e = run_stop (λ p. behind_package (package_at_of s p)) Some at n h (rw e)

  pub end_on : (n : ℕ) {p : Package} {next : ℕ} → 0 < n → package_at_of s at ≡ Some (p, next)
      → packages_end n s at ≡ packages_end (n - 1) s next
  end_on n {p} {next} h e = run_more (λ q. behind_package (package_at_of s q)) Some at n {next = next} {f = λ end. end} h (rw e)

  -- the turns of the loop that asks whether n deliveries are whole
  pub whole_none : (n : ℕ) → 0 < n → delivery_at_of s at ≡ None → deliveries_whole n s at ≡ false
  unfolding deliveries_whole
  whole_none n h e = all_stop (λ p. delivery_item (delivery_at_of s p)) at n h (rw e)

  pub whole_on_lem : (n : ℕ) {x : IpDelivery} {next : ℕ} → 0 < n → delivery_at_of s at ≡ Some (x, next)
      → deliveries_whole n s at ≡ deliveries_whole (n - 1) s next
  unfolding deliveries_whole
  whole_on_lem n {x} {next} h e = all_more (λ p. delivery_item (delivery_at_of s p)) at n x {next = next} h (rw e)
