use Rattle.isdb_mmt.proofs.AssetReadings.{asset_in_use, asset_read_lem}
use Rattle.isdb_mmt.proofs.decoder.session.Session.asset_of.Goals as goal

pub asset_among-requires : goal.asset_among-requires
asset_among-requires c = asset_in_use _ _ c.is_session.ensures _ c.in_ok-is_session.was _ c.load_used-u.ensures

pub returns : goal.returns
returns c = asset_read_lem _ _ c.is_session.ensures _ c.in_ok-is_session.was _ c.load_used-u.ensures _ _ c.asset_among.ensures
