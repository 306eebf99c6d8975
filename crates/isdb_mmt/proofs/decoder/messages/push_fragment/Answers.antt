use Rattle.isdb_mmt.proofs.FragmentPushes.{joins_old, joins_new, pushed_old, pushed_new, pushed_full}
use Rattle.std.proofs.Common.{rules}
use Rattle.isdb_mmt.proofs.decoder.messages.push_fragment.Goals as goal

pub join_at-requires : goal.join_at-requires
join_at-requires c = joins_old _ _ _ c.requires _ c.in-Own.is

pub join_at-requires-in-Free : goal.join_at-requires-in-Free
join_at-requires-in-Free c = joins_new _ _ _ c.requires _ c.in-Free.is

pub returns-in-Own : goal.returns-in-Own
returns-in-Own c = search (rules, pushed_old)

pub returns-in-Free : goal.returns-in-Free
returns-in-Free c = search (rules, pushed_new)

pub returns-in-NoneFree : goal.returns-in-NoneFree
returns-in-NoneFree c = search (rules, pushed_full)
