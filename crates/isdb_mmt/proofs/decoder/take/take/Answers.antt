use Rattle.isdb_mmt.proofs.Taking.{may_count, may_count_ip, may_time, can_within, route_ip, route_time, route_mmtp, route_control, route_null, route_other}
use Rattle.std.proofs.Common.{rules, refl}
use Rattle.isdb_mmt.proofs.decoder.take.take.Goals as goal
use Rattle.std.proofs.lemmas.Result.{err_from_is_err_and}

-- src/decoder/take.rt:133:13
pub count_packet-requires : goal.count_packet-requires
count_packet-requires c = search (rules, may_count_ip)

-- src/decoder/take.rt:137:13
pub push_time-requires : goal.push_time-requires
push_time-requires c = search (rules, may_time)

-- src/decoder/take.rt:140:28
pub push_mmtp-requires : goal.push_mmtp-requires
push_mmtp-requires c = search (rules, can_within)

-- src/decoder/take.rt:155:13
pub count_packet-requires-in-Null : goal.count_packet-requires-in-Null
count_packet-requires-in-Null c = search (rules, may_count)

-- src/decoder/take.rt:159:13
pub count_packet-requires-in-Other : goal.count_packet-requires-in-Other
count_packet-requires-in-Other c = search (rules, may_count)

-- src/decoder/take.rt:117:1
pub returns-in-IpError : goal.returns-in-IpError
returns-in-IpError c = search (rules, route_ip)

-- src/decoder/take.rt:117:1
pub returns-in-Time : goal.returns-in-Time
returns-in-Time c = search (rules, route_time)

-- src/decoder/take.rt:117:1
pub returns-in-Mmtp : goal.returns-in-Mmtp
returns-in-Mmtp c = search (rules, route_mmtp)

-- src/decoder/take.rt:117:1
pub returns-in-Null : goal.returns-in-Null
returns-in-Null c = search (rules, route_null)

-- src/decoder/take.rt:117:1
pub returns-in-Other : goal.returns-in-Other
returns-in-Other c = search (rules, route_other)

pub returns-in_err-push_control-in-Control : goal.returns-in_err-push_control-in-Control
returns-in_err-push_control-in-Control c = let p = err_from_is_err_and c.from_residual.result c.from_residual.ensures.1 in rw (p.1, p.2) (record { same_buffers = search rules; pushed = route_control _ _ _ _ _ c.requires _ c.find_route.ensures c.in-Control.is _ _ (rw c.in_err-push_control-in-Control.was at c.push_control.ensures.pushed) _ refl })

pub returns-in_ok-push_control-in-Control : goal.returns-in_ok-push_control-in-Control
returns-in_ok-push_control-in-Control c = record { same_buffers = search rules; pushed = route_control _ _ _ _ _ c.requires _ c.find_route.ensures c.in-Control.is _ _ (rw c.in_ok-push_control-in-Control.was at c.push_control.ensures.pushed) _ c.accepted-in-Control.ensures }
