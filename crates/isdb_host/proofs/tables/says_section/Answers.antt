use Rattle.isdb_host.proofs.Numbers.{headed_by_eight}
use Rattle.isdb_host.proofs.tables.says_section.Goals as goal

pub returns : goal.returns
returns c =
    headed_by_eight c.args.h c.args.more.now
    (rw (
      c.number_at-8.ensures,
      c.number_at-7.ensures,
      c.number_at-6.ensures,
      c.number_at-5.ensures,
      c.number_at-4.ensures,
      c.number_at-3.ensures,
      c.number_at-2.ensures,
      c.number_at.ensures,
      c.from.ensures,
    )
    at c.says.ensures)
