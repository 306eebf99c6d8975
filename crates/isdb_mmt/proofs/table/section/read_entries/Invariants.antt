use Rattle.std.proofs.Common.{◌≡◌, ◌-◌, ◌≤◌, length}
use Rattle.isdb_mmt.specs.Formats.Section.{entries_from, entries_told}
use Rattle.isdb_mmt.proofs.Entries.{plus}
use Rattle.isdb_mmt.proofs.table.section.read_entries.Given as goal

abbrev pub invariant-loop-e : goal.invariant-loop-e
invariant-loop-e l = (l.count ≤ l.at) × ((l.breaks ≤ l.at) × (plus l.count l.breaks (entries_from l.b l.fields l.at) ≡ entries_told (entries_from l.b l.fields l.from)))

abbrev pub decreases-loop-e : goal.decreases-loop-e
decreases-loop-e l = length l.b - l.at
