-- The services of an AMT, one behind another: a loop which counts them down goes over all of them. Assumes nothing.
use Rattle.std.specs.Prelude.{None, Some}
use Rattle.std.proofs.Common.{◌≡◌, ℕ, ◌-◌, ◌<◌, ◌≤◌, Bool, true, false, List, arith}
use Rattle.isdb_mmt.specs.Formats.Amt.{address_size, service_at, service_item, services_whole}
use Rattle.isdb_mmt.proofs.Steps.{all_stop, all_more}
use Rattle.isdb_mmt.specs.declared.table.amt.AmtService.{AmtService}

-- an address has 16 bytes at most
pub size_le : (wide : Bool) {n : ℕ} → n ≡ address_size wide → n ≤ 16
size_le true e = omega arith
size_le false e = omega arith

-- the turns of the loop that asks whether n services are whole
module _ (s : List ℕ) (at : ℕ) where
  pub whole_done : (n i : ℕ) → n ≤ i → services_whole (n - i) s at ≡ true
  unfolding services_whole
  whole_done n i h = let e : n - i ≡ 0 = omega arith in rw e

  pub whole_none : (n : ℕ) → 0 < n → service_at s at ≡ None → services_whole n s at ≡ false
  unfolding services_whole
  whole_none n h e = all_stop (λ p. service_item (service_at s p)) at n h (rw e)

  pub whole_on_lem : (n : ℕ) {x : AmtService} {next : ℕ} → 0 < n → service_at s at ≡ Some (x, next)
      → services_whole n s at ≡ services_whole (n - 1) s next
  unfolding services_whole
  whole_on_lem n {x} {next} h e = all_more (λ p. service_item (service_at s p)) at n x {next = next} h (rw e)
