-- The claim of specs/Books/Demand.antt, of every list of packets.
use Rattle.isdb_mmt.specs.Books.Demand.{Theorem, OfBytes, packets_of}
use Rattle.isdb_mmt.proofs.BookFacts.{ids}
use Rattle.isdb_mmt.proofs.Keeping.{keys}
use Rattle.isdb_mmt.proofs.Smallness.{every_small}

pub demand : Theorem
demand pass ps small = record { ids = ids pass ps small; keys = keys pass ps }

pub demand_of_bytes : OfBytes
demand_of_bytes pass f fit = demand pass (packets_of f) (every_small f fit)
