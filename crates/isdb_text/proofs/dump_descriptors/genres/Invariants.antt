use Rattle.std.proofs.Common.{length}
use Rattle.isdb_mmt.specs.Formats.Desc.{genre_at}
use Rattle.isdb_text.specs.DumpDescriptors.{genre_element, genres_text}
use Rattle.isdb_text.proofs.Elements.{Walk}
use Rattle.isdb_text.proofs.dump_descriptors.genres.Given as goal

abbrev pub invariant-loop : goal.invariant-loop
invariant-loop l = Walk l.initial.out l.at (genres_text l.b) l.out l.p genre_element (genre_at l.b) (length l.b) l.counter l.i
