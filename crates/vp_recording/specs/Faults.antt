-- The faults of a catalogue, as those of recordings.
use Rattle.vp_catalog.specs.declared.fault.CatalogFault.{CatalogFault}
use Rattle.vp_catalog.specs.declared.fault.CatalogFault.TheVariants as catalog_faults
use Rattle.vp_recording.specs.declared.fault.RecordingFault.{RecordingFault}
use Rattle.vp_recording.specs.declared.fault.RecordingFault.TheVariants as faults

abbrev pub fault_of : CatalogFault → RecordingFault
fault_of (catalog_faults.BadLine line at) = faults.BadLine line at
fault_of (catalog_faults.Twice line) = faults.Twice line
fault_of (catalog_faults.TooMany line limit) = faults.TooMany line limit
fault_of catalog_faults.NoMemory = faults.NoMemory
