use Rattle.isdb_mmt.proofs.decoder.place.octets.Goals as goal

pub returns : goal.returns
returns c = λ i. (c.shared_slice_known-1.given i).fits
