use Rattle.std.proofs.Common.{rules}
use Rattle.isdb_text.proofs.Windows.{moved}
use Rattle.isdb_text.proofs.window.to_front.Goals as goal

pub returns : goal.returns
returns c = search (rules, moved)
