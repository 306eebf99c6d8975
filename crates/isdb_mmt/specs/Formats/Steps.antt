-- What stands at a place of each walk.
use Rattle.isdb_mmt.specs.declared.walk_step.WalkStep.{WalkStep}
use Rattle.isdb_mmt.specs.declared.mpu.Unit.{Unit as DataUnit}
use Rattle.isdb_mmt.specs.declared.part.Part.{Part}
use Rattle.isdb_mmt.specs.declared.table.bit.Broadcaster.{Broadcaster}
use Rattle.isdb_mmt.specs.declared.table.eit.Event.{Event}
use Rattle.isdb_mmt.specs.declared.table.nit.NitStream.{NitStream}
use Rattle.isdb_mmt.specs.declared.table.sdt.SdtService.{SdtService}
use Rattle.isdb_mmt.specs.declared.table.section.Entry.{Entry}
use Rattle.isdb_mmt.specs.declared.timestamp.ExtendedMpu.{ExtendedMpu}

abbrev pub UnitStep : Type 0
UnitStep = WalkStep DataUnit

abbrev pub MessageStep : Type 0
MessageStep = WalkStep Part

abbrev pub TableStep : Type 0
TableStep = WalkStep Part

abbrev pub BroadcasterStep : Type 0
BroadcasterStep = WalkStep Broadcaster

abbrev pub EventStep : Type 0
EventStep = WalkStep Event

abbrev pub StreamStep : Type 0
StreamStep = WalkStep NitStream

abbrev pub SdtStep : Type 0
SdtStep = WalkStep SdtService

abbrev pub EntryStep : Type 0
EntryStep = WalkStep Entry

abbrev pub MpuStep : Type 0
MpuStep = WalkStep ExtendedMpu
