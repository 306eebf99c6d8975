use Rattle.isdb_mmt.proofs.MediaCommits.{can_take, commit_taken, can_pass_on, commit_none, commit_passed, commit_idle}
use Rattle.isdb_mmt.proofs.decoder.push_media.commit.Goals as goal

pub commit_units-requires : goal.commit_units-requires
commit_units-requires c = can_take _ _ _ _ _ _ _ _ _ c.requires _ c.in-Some.is c.if-r.true

pub returns-then-r : goal.returns-then-r
returns-then-r c = commit_taken _ _ _ _ _ _ _ _ _ c.requires _ c.in-Some.is c.if-r.true _ _ _ c.commit_units.ensures

pub pass_on-requires : goal.pass_on-requires
pass_on-requires c = can_pass_on _ _ _ _ _ _ _ _ _ c.requires c.if-r.false _ c.in-Some.is _ c.passes_on.ensures c.if-passes_on.true

pub returns-in-None : goal.returns-in-None
returns-in-None c = commit_none _ _ _ _ _ _ _ _ _ c.requires c.in-None.is

pub returns-then-passes_on : goal.returns-then-passes_on
returns-then-passes_on c = commit_passed _ _ _ _ _ _ _ _ _ c.requires c.if-r.false _ c.in-Some.is _ c.passes_on.ensures c.if-passes_on.true _ _ c.pass_on.ensures

pub returns-else-passes_on : goal.returns-else-passes_on
returns-else-passes_on c = commit_idle _ _ _ _ _ _ _ _ _ c.requires c.if-r.false _ c.in-Some.is _ c.passes_on.ensures c.if-passes_on.false
