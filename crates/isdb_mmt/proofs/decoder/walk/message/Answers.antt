use Rattle.isdb_mmt.proofs.Messages.{message_cut, message_none, message_table_can, message_table, message_body_adds, message_body_can, message_body}
use Rattle.isdb_mmt.proofs.decoder.walk.message.Goals as goal

pub table-requires : goal.table-requires
table-requires c = let x = c.args in message_table_can _ _ _ _ x.a.now x.b.now _ c.requires _ c.content_of.ensures _ c.in-Table.is c.shared_slice_known-1.given c.shared_slice_known-2-1.given

pub overflow_add-k : goal.overflow_add-k
overflow_add-k c = let x = c.args in message_body_adds _ _ _ _ x.a.now x.b.now _ c.requires _ c.content_of.ensures _ _ c.in-Tables.is c.shared_slice_known-1.given c.shared_slice_known-2-1.given

pub tables-requires : goal.tables-requires
tables-requires c = let x = c.args in message_body_can _ _ _ _ x.a.now x.b.now _ c.requires _ c.content_of.ensures _ _ c.in-Tables.is c.shared_slice_known-1.given c.shared_slice_known-2-1.given _ c.behind-q.ensures _ _ c.of.ensures c.of-in-Tables.ensures

pub returns-in-Malformed : goal.returns-in-Malformed
returns-in-Malformed c = let x = c.args in message_cut _ _ _ _ x.a.now x.b.now _ c.requires _ c.content_of.ensures c.in-Malformed.is _ c.cut_short.ensures

pub returns-in-Nothing : goal.returns-in-Nothing
returns-in-Nothing c = let x = c.args in message_none _ _ _ _ x.a.now x.b.now _ c.requires _ c.content_of.ensures c.in-Nothing.is

pub returns-in-Table : goal.returns-in-Table
returns-in-Table c = let x = c.args in message_table _ _ _ _ x.a.now x.b.now _ c.requires _ c.content_of.ensures _ c.in-Table.is _ _ _ _ c.table.ensures

pub returns-in-Tables : goal.returns-in-Tables
returns-in-Tables c = let x = c.args in message_body _ _ _ _ x.a.now x.b.now _ c.requires _ c.content_of.ensures _ _ c.in-Tables.is c.shared_slice_known-1.given c.shared_slice_known-2-1.given _ c.behind-q.ensures _ _ c.of.ensures c.of-in-Tables.ensures _ _ _ _ c.tables.ensures
