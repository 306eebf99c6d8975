use Rattle.isdb_mmt.proofs.Taking.{can_media, may_count, type_media, type_message, type_object, type_fec, type_reserved}
use Rattle.std.proofs.Common.{rules, refl}
use Rattle.isdb_mmt.proofs.decoder.take.by_type.Goals as goal
use Rattle.std.proofs.lemmas.Result.{err_from_is_err_and}

-- src/decoder/take.rt:57:29
pub push_media-requires : goal.push_media-requires
push_media-requires c = search (rules, can_media)

-- src/decoder/take.rt:74:13
pub count_packet-requires : goal.count_packet-requires
count_packet-requires c = search (rules, may_count)

-- src/decoder/take.rt:78:13
pub count_packet-requires-in-FecRepair : goal.count_packet-requires-in-FecRepair
count_packet-requires-in-FecRepair c = search (rules, may_count)

-- src/decoder/take.rt:82:13
pub count_packet-requires-in-Reserved : goal.count_packet-requires-in-Reserved
count_packet-requires-in-Reserved c = search (rules, may_count)

-- src/decoder/take.rt:41:1
pub returns-in-Mpu : goal.returns-in-Mpu
returns-in-Mpu c = search (rules, type_media)

-- src/decoder/take.rt:41:1
pub returns-in-GenericObject : goal.returns-in-GenericObject
returns-in-GenericObject c = search (rules, type_object)

-- src/decoder/take.rt:41:1
pub returns-in-FecRepair : goal.returns-in-FecRepair
returns-in-FecRepair c = search (rules, type_fec)

-- src/decoder/take.rt:41:1
pub returns-in-Reserved : goal.returns-in-Reserved
returns-in-Reserved c = search (rules, type_reserved)

pub returns-in_err-push_message-in-Messages : goal.returns-in_err-push_message-in-Messages
returns-in_err-push_message-in-Messages c = let p = err_from_is_err_and c.from_residual.result c.from_residual.ensures.1 in rw (p.1, p.2) (record { same_buffers = search rules; pushed = type_message _ _ _ _ _ c.requires c.in-Messages.is _ _ (rw c.in_err-push_message-in-Messages.was at c.push_message.ensures.pushed) _ refl })

pub returns-in_ok-push_message-in-Messages : goal.returns-in_ok-push_message-in-Messages
returns-in_ok-push_message-in-Messages c = record { same_buffers = search rules; pushed = type_message _ _ _ _ _ c.requires c.in-Messages.is _ _ (rw c.in_ok-push_message-in-Messages.was at c.push_message.ensures.pushed) _ c.accepted.ensures }
