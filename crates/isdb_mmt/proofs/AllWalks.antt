-- Every walk over a table that parses gives its whole value. Assumes nothing.
use Rattle.isdb_mmt.specs.WholeValues.Walks.{WalksTheorem}
use Rattle.isdb_mmt.proofs.Walks.{mpt, assets, plt}
use Rattle.isdb_mmt.proofs.SectionWalks.{amt, eit, sdt, bit, nit}
use Rattle.isdb_mmt.proofs.DescriptorWalks.{tot, loops, rows, extended_timestamps, units}
use Rattle.isdb_mmt.proofs.BytesBehind.{behind}

pub walks : WalksTheorem
walks =
    record {
      mpt = mpt;
      assets = assets;
      plt = plt;
      amt = amt;
      eit = eit;
      sdt = sdt;
      bit = bit;
      nit = nit;
      tot = tot;
      loops = loops;
      rows = rows;
      extended_timestamps = extended_timestamps;
      units = units;
      behind = behind;
    }
